use Rattle.content_ser.proofs.Sending.{takes_only, takes_then, takes_err, at_exit_aside}
use Rattle.content_ser.proofs.send.walk.open_single.Goals as goal

pub returns-in_err-serialize_map : goal.returns-in_err-serialize_map
returns-in_err-serialize_map g c = at_exit_aside _ _ c.from_residual.ensures.1 (takes_err c.in_err-serialize_map.ensures)

pub returns-in_err-serialize_entry : goal.returns-in_err-serialize_entry
returns-in_err-serialize_entry g c =
    at_exit_aside _ _ c.from_residual-in_err-serialize_entry.ensures.1 (takes_then c.in_ok-serialize_map.ensures (takes_err c.in_err-serialize_entry.ensures))

pub returns : goal.returns
returns g c =
    takes_then c.in_ok-serialize_map.ensures (takes_then c.in_ok-serialize_entry.ensures (takes_only (rw c.as_str.ensures at c.serialize_str.ensures)))
