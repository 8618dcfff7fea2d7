use Rattle.content_cbor.proofs.Read.Whole.{one_tree}
use Rattle.content_cbor.proofs.laws.one_tree.Goals as goal

pub returns : goal.returns
returns c = one_tree
