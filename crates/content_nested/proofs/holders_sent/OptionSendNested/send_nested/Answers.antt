use Rattle.content_ser.proofs.Sending.{takes_then, takes_err, at_exit_aside}
use Rattle.content_nested.proofs.holders_sent.OptionSendNested.send_nested.Goals as goal

pub returns-in_err-call_aside-in-Some : goal.returns-in_err-call_aside-in-Some
returns-in_err-call_aside-in-Some g c =
    rw c.in-Some.is (at_exit_aside _ _ c.from_residual.ensures.1 (takes_err c.in_err-call_aside-in-Some.ensures))

pub returns-in_ok-call_aside-in-Some : goal.returns-in_ok-call_aside-in-Some
returns-in_ok-call_aside-in-Some g c = rw c.in-Some.is (takes_then c.in_ok-call_aside-in-Some.ensures c.send_nested.ensures)
