use Rattle.content_ser.proofs.Sending.{takes_then, takes_err, at_exit_aside}
use Rattle.serde_content.proofs.entries_sent.SendTagEntrySendRow.send.Goals as goal

pub returns-in_err-announce_entry : goal.returns-in_err-announce_entry
returns-in_err-announce_entry g c =
    at_exit_aside _ _ c.from_residual.ensures.1 (c.in_err-announce_entry.ensures _)

pub returns-in_err-send_name : goal.returns-in_err-send_name
returns-in_err-send_name g c =
    at_exit_aside _ _ c.from_residual-in_err-send_name.ensures.1
    (c.in_ok-announce_entry.ensures _ _ _ (takes_err c.in_err-send_name.ensures))

pub returns : goal.returns
returns g c = c.in_ok-announce_entry.ensures _ _ _ (takes_then c.in_ok-send_name.ensures c.send.ensures)
