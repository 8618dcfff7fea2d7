use Rattle.std.proofs.Common.{◌≡◌, map, drop}
use Rattle.content_de.specs.Accesses.ByName.{fields_left}
use Rattle.content_de.specs.Reads.ByName.{others_skipped}
use Rattle.content_de.proofs.named_fields.none_again.Given as goal

-- no entry has a name before
abbrev pub invariant-loop-name : goal.invariant-loop-name
invariant-loop-name l = others_skipped (map (λ name. name.now) l.fn.known) (fields_left l.fn.from) ≡ others_skipped (map (λ name. name.now) (drop l.name-index l.fn.known)) (fields_left l.fn.from)
