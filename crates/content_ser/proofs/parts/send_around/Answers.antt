use Rattle.content_ser.proofs.Sending.{at_exit_aside}
use Rattle.content_ser.proofs.parts.send_around.Goals as goal

pub returns-in_err-send_parts_aside : goal.returns-in_err-send_parts_aside
returns-in_err-send_parts_aside g c = at_exit_aside _ _ c.from_residual.ensures.1 (c.in_err-send_parts_aside.ensures _)

pub returns : goal.returns
returns g c = c.in_ok-send_parts_aside.ensures _ _ _ c.serialize_aside.ensures
