use Rattle.content_tree.proofs.EditLaws.{inserted_then_removed}
use Rattle.content_tree.proofs.laws.inserted_then_removed.Goals as goal

pub returns : goal.returns
returns c = inserted_then_removed
