use Rattle.content_ser.proofs.Sending.{sends_then, sends_err, at_exit_aside}
use Rattle.serde_content.proofs.entries_sent.SendEntryInsideSendRow.send.Goals as goal

pub returns-in_err-announce_entry : goal.returns-in_err-announce_entry
returns-in_err-announce_entry g c =
    at_exit_aside _ _ c.from_residual.ensures.1 (c.in_err-announce_entry.ensures _)

pub returns-in_err-send : goal.returns-in_err-send
returns-in_err-send g c =
    at_exit_aside _ _ c.from_residual-in_err-send.ensures.1
    (c.in_ok-announce_entry.ensures _ _ _ (sends_err _ c.in_err-send.ensures))

pub returns : goal.returns
returns g c = c.in_ok-announce_entry.ensures _ _ _ (sends_then c.in_ok-send.ensures c.send-2.ensures)
