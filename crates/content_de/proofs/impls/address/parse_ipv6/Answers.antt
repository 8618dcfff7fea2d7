use Rattle.std.proofs.Common.{Some, ap, refl, sym}
use Rattle.content_de.proofs.Written.{written_ipv6, not_ipv6}
use Rattle.content_de.proofs.impls.address.parse_ipv6.Goals as goal

pub returns-in-Ok : goal.returns-in-Ok
returns-in-Ok c = let written = c.in-Ok.ensures.value in (rw (written_ipv6 _ _ written) refl, written)

pub returns-in-Err : goal.returns-in-Err
returns-in-Err c = λ other. rw (not_ipv6 _ c.in-Err.ensures.value) (ap Some (sym (c.custom.ensures.cause other)))
