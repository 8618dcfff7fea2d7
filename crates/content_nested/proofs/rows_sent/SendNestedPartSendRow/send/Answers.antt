use Rattle.content_ser.proofs.Sending.{takes_then, takes_err, sends_then, sends_err}
use Rattle.content_ser.proofs.Sending.{at_exit_aside}
use Rattle.content_nested.proofs.rows_sent.SendNestedPartSendRow.send.Goals as goal

pub returns-in_err-call_aside : goal.returns-in_err-call_aside
returns-in_err-call_aside g c =
    at_exit_aside _ _ c.from_residual.ensures.1
    (takes_err c.in_err-call_aside.ensures)

pub returns-in_err-send_nested : goal.returns-in_err-send_nested
returns-in_err-send_nested g c =
    at_exit_aside _ _ c.from_residual-in_err-send_nested.ensures.1
    (takes_then c.in_ok-call_aside.ensures (sends_err _ c.in_err-send_nested.ensures))

pub returns : goal.returns
returns g c =
    takes_then c.in_ok-call_aside.ensures (sends_then c.in_ok-send_nested.ensures c.send.ensures)
