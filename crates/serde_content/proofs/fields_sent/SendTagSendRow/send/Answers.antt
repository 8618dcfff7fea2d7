use Rattle.content_ser.proofs.Sending.{takes_then, takes_err}
use Rattle.content_ser.proofs.Sending.{at_exit_aside}
use Rattle.serde_content.proofs.fields_sent.SendTagSendRow.send.Goals as goal

pub returns-in_err-announce_field : goal.returns-in_err-announce_field
returns-in_err-announce_field g c =
    at_exit_aside _ _ c.from_residual.ensures.1
    (takes_err c.in_err-announce_field.ensures)

pub returns-in_err-send_name : goal.returns-in_err-send_name
returns-in_err-send_name g c =
    at_exit_aside _ _ c.from_residual-in_err-send_name.ensures.1
    (takes_then c.in_ok-announce_field.ensures (takes_err c.in_err-send_name.ensures))

pub returns : goal.returns
returns g c =
    takes_then c.in_ok-announce_field.ensures (takes_then c.in_ok-send_name.ensures c.send.ensures)
