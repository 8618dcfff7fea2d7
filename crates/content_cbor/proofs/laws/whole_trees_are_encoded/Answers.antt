use Rattle.content_cbor.proofs.Streamed.{whole_written}
use Rattle.content_cbor.proofs.laws.whole_trees_are_encoded.Goals as goal

pub returns : goal.returns
returns c = whole_written
