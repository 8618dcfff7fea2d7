use Rattle.content_ser.proofs.Sending.{takes_only, takes_then, takes_err, sends_then, sends_err}
use Rattle.content_ser.proofs.Sending.{at_exit_aside}
use Rattle.content_ser.proofs.impls.tuple.Tuple2Serialize.serialize_aside.Goals as goal

pub returns-in_err-serialize_tuple : goal.returns-in_err-serialize_tuple
returns-in_err-serialize_tuple g c =
    at_exit_aside _ _ c.from_residual.ensures.1
    (takes_err c.in_err-serialize_tuple.ensures)

pub returns-in_err-announce : goal.returns-in_err-announce
returns-in_err-announce g c =
    at_exit_aside _ _ c.from_residual-in_err-announce.ensures.1
    (takes_then c.in_ok-serialize_tuple.ensures (sends_err _ c.in_err-announce.ensures))

pub returns-in_err-announce-2 : goal.returns-in_err-announce-2
returns-in_err-announce-2 g c =
    at_exit_aside _ _ c.from_residual-in_err-announce-2.ensures.1
    (takes_then c.in_ok-serialize_tuple.ensures (sends_then c.in_ok-announce.ensures (sends_err _ c.in_err-announce-2.ensures)))

pub returns : goal.returns
returns g c =
    takes_then c.in_ok-serialize_tuple.ensures (sends_then c.in_ok-announce.ensures (sends_then c.in_ok-announce-2.ensures (takes_only c.end.ensures)))
