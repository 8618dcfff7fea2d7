use Rattle.std.proofs.Common.{arith}
use Rattle.content_cbor.proofs.Read.Heads.{byte_is}
use Rattle.content_cbor.proofs.Read.Numbers.{ends_unbounded}
use Rattle.content_cbor.proofs.heads.read_u8.Goals as goal

pub returns-in-empty : goal.returns-in-empty
returns-in-empty c = rw c.stop_at.ensures (ends_unbounded 1 0 c.args.bytes.now (omega (arith, c.in-empty.len_below)))

pub returns-in-len1-up : goal.returns-in-len1-up
returns-in-len1-up c = byte_is c.args.bytes.now c.in-len1-up.len_at_least
