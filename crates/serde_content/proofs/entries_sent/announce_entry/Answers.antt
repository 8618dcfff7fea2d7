use Rattle.std.proofs.Common.{refl}
use Rattle.content_ser.proofs.Sending.{takes_then, takes_err}
use Rattle.content_ser.proofs.Beginning.{begun_call, begun_exit_aside}
use Rattle.serde_content.proofs.Entries.{begun_after}
use Rattle.serde_content.proofs.entries_sent.announce_entry.Goals as goal

pub returns-in_err-call_aside : goal.returns-in_err-call_aside
returns-in_err-call_aside g c =
    begun_exit_aside _ _ c.from_residual.ensures.1 (λ rest. takes_err c.in_err-call_aside.ensures)

pub returns-in_err-send_name : goal.returns-in_err-send_name
returns-in_err-send_name g c =
    begun_exit_aside _ _ c.from_residual-in_err-send_name.ensures.1
    (λ rest. takes_then c.in_ok-call_aside.ensures (takes_err c.in_err-send_name.ensures))

pub returns : goal.returns
returns g c =
    begun_after _ _ _ c.in_ok-call_aside.ensures (begun_after _ _ _ c.in_ok-send_name.ensures (begun_call _ refl c.call_aside-2.ensures))
