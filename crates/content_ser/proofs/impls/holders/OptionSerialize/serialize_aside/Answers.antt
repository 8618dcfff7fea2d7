use Rattle.content_ser.proofs.Sending.{takes_then, takes_err, at_exit_aside}
use Rattle.content_ser.proofs.impls.holders.OptionSerialize.serialize_aside.Goals as goal

pub returns-in_err-serialize_some-in-Some : goal.returns-in_err-serialize_some-in-Some
returns-in_err-serialize_some-in-Some g c =
    rw c.in-Some.is (at_exit_aside _ _ c.from_residual.ensures.1 (takes_err c.in_err-serialize_some-in-Some.ensures))

pub returns-in_ok-serialize_some-in-Some : goal.returns-in_ok-serialize_some-in-Some
returns-in_ok-serialize_some-in-Some g c = rw c.in-Some.is (takes_then c.in_ok-serialize_some-in-Some.ensures c.serialize_aside.ensures)
