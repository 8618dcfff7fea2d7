use Rattle.content_tree.proofs.PathEditLaws.{removed_is_found}
use Rattle.content_tree.proofs.laws.removed_is_found.Goals as goal

pub returns : goal.returns
returns c = removed_is_found
