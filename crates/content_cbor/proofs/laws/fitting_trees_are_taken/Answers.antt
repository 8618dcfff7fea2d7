use Rattle.content_cbor.proofs.Taken.{fitting_taken}
use Rattle.content_cbor.proofs.laws.fitting_trees_are_taken.Goals as goal

pub returns : goal.returns
returns c = fitting_taken
