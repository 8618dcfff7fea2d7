use Rattle.content_ser.proofs.Sending.{takes_then, takes_err}
use Rattle.content_ser.proofs.Sending.{at_exit_aside}
use Rattle.serde_content.proofs.fields_sent.SendOpenSendRow.send.Goals as goal

pub returns-in_err-send_call : goal.returns-in_err-send_call
returns-in_err-send_call g c =
    at_exit_aside _ _ c.from_residual.ensures.1
    (takes_err c.in_err-send_call.ensures)

pub returns : goal.returns
returns g c =
    takes_then c.in_ok-send_call.ensures c.send.ensures
