use Rattle.content_tree.proofs.EditLaws.{removed_is_gone, last_is_removed, others_remain}
use Rattle.content_tree.proofs.laws.removed_is_gone.Goals as goal

pub returns : goal.returns
returns c = record { gone = removed_is_gone; last = last_is_removed; others = others_remain }
