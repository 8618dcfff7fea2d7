use Rattle.content_ser.proofs.Sending.{sends_then, sends_err, at_exit_aside}
use Rattle.serde_content.proofs.entries_sent.send_entry.Goals as goal

pub returns-in_err-announce_entry : goal.returns-in_err-announce_entry
returns-in_err-announce_entry g c =
    at_exit_aside _ _ c.from_residual.ensures.1 (c.in_err-announce_entry.ensures _)

pub returns-in_err-serialize_aside : goal.returns-in_err-serialize_aside
returns-in_err-serialize_aside g c =
    at_exit_aside _ _ c.from_residual-in_err-serialize_aside.ensures.1
    (c.in_ok-announce_entry.ensures _ _ _ (sends_err _ c.in_err-serialize_aside.ensures))

pub returns : goal.returns
returns g c = c.in_ok-announce_entry.ensures _ _ _ (sends_then c.in_ok-serialize_aside.ensures c.send.ensures)
