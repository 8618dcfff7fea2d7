use Rattle.content_cbor.proofs.Shortest.{no_shorter_head}
use Rattle.content_cbor.proofs.laws.heads_are_short.Goals as goal

pub returns : goal.returns
returns c = no_shorter_head
