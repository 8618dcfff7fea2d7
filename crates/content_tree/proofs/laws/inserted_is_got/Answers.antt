use Rattle.content_tree.proofs.EditLaws.{inserted_is_got, others_stay}
use Rattle.content_tree.proofs.laws.inserted_is_got.Goals as goal

pub returns : goal.returns
returns c = record { got = inserted_is_got; others = others_stay }
