use Rattle.std.proofs.Common.{rules}
use Rattle.content_cbor.specs.Codes as size
use Rattle.content_cbor.proofs.Read.Heads.{wide_is}
use Rattle.content_cbor.proofs.Read.Numbers.{ends_unbounded}
use Rattle.content_cbor.proofs.heads.read_u32.Goals as goal

pub returns-then-bytes-lt4 : goal.returns-then-bytes-lt4
returns-then-bytes-lt4 c = rw c.stop_at.ensures (ends_unbounded 4 0 c.args.bytes.now c.if-bytes-lt4.true)

pub returns : goal.returns
returns c = wide_is size.four c.args.bytes.now c.from_be_bytes-number.result c.split_at.result.1.now c.if-bytes-lt4.false (search rules) (search rules)
