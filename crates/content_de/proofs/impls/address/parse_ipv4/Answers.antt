use Rattle.std.proofs.Common.{Some, ap, refl, sym}
use Rattle.content_de.proofs.Written.{written_ipv4, not_ipv4}
use Rattle.content_de.proofs.impls.address.parse_ipv4.Goals as goal

pub returns-in-Ok : goal.returns-in-Ok
returns-in-Ok c = let written = c.in-Ok.ensures.value in (rw (written_ipv4 _ _ written) refl, written)

pub returns-in-Err : goal.returns-in-Err
returns-in-Err c = λ other. rw (not_ipv4 _ c.in-Err.ensures.value) (ap Some (sym (c.custom.ensures.cause other)))
