use Rattle.content_ser.proofs.Sending.{at_exit_aside, takes_err, takes_then}
use Rattle.content_ser.proofs.send.calls.announce.Goals as goal

pub returns-in_err-call_aside : goal.returns-in_err-call_aside
returns-in_err-call_aside g c = at_exit_aside _ _ c.from_residual.ensures.1 (takes_err c.in_err-call_aside.ensures)

pub returns : goal.returns
returns g c = takes_then c.in_ok-call_aside.ensures c.serialize_aside.ensures
