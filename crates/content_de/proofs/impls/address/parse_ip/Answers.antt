use Rattle.std.proofs.Common.{Some, ap, refl, sym}
use Rattle.content_de.proofs.Written.{written_ip, not_ip}
use Rattle.content_de.proofs.impls.address.parse_ip.Goals as goal

pub returns-in-Ok : goal.returns-in-Ok
returns-in-Ok c = let written = c.in-Ok.ensures.value in (rw (written_ip _ c.in-Ok.address written) refl, written)

pub returns-in-Err : goal.returns-in-Err
returns-in-Err c = λ other. rw (not_ip _ c.in-Err.ensures.value) (ap Some (sym (c.custom.ensures.cause other)))
