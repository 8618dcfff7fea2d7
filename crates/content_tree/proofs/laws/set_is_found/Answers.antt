use Rattle.content_tree.proofs.PathEditLaws.{set_gives_found, put_is_found, set_is_found}
use Rattle.content_tree.proofs.laws.set_is_found.Goals as goal

pub returns : goal.returns
returns c = record { given = set_gives_found; put = put_is_found; found = set_is_found }
