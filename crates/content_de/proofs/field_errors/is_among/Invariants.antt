use Rattle.std.proofs.Common.{◌≡◌, map, drop}
use Rattle.std.specs.List.{list_any}
use Rattle.std.specs.Str.{bytes_eq}
use Rattle.content_de.proofs.field_errors.is_among.Given as goal

-- none is it before
abbrev pub invariant-loop-other : goal.invariant-loop-other
invariant-loop-other l = list_any (λ one. bytes_eq l.fn.name one) (map (λ name. name.now) l.fn.known) ≡ list_any (λ one. bytes_eq l.fn.name one) (map (λ name. name.now) (drop l.other-index l.fn.known))
