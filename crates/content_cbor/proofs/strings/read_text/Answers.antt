use Rattle.std.proofs.Common.{sym, subst}
use Rattle.std.specs.Str.{IsUtf8}
use Rattle.content_cbor.specs.Inner.Reading.{content_at}
use Rattle.content_cbor.proofs.Read.Strings.{good_text, no_bad_text, no_short_text}
use Rattle.content_cbor.proofs.strings.read_text.Goals as goal

pub stop_in_text-requires : goal.stop_in_text-requires
stop_in_text-requires c = no_short_text c.args.length c.args.bytes.now c.if-bytes-length.true

pub stop_in_text-requires-in-Err : goal.stop_in_text-requires-in-Err
stop_in_text-requires-in-Err c =
    no_bad_text c.args.length c.args.bytes.now (λ good. c.in-Err.ensures.cases.0 (subst IsUtf8 (sym c.split_at.ensures.front) good))

pub returns-in-Ok : goal.returns-in-Ok
unfolding content_at
returns-in-Ok c =
    rw (c.in-Ok.ensures.cases.0, c.split_at.ensures.front, c.split_at.ensures.back)
    (good_text c.args.length c.args.bytes.now c.if-bytes-length.false (subst IsUtf8 c.split_at.ensures.front c.in-Ok.ensures.cases.1))
