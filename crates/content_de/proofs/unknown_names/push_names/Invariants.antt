use Rattle.std.proofs.Common.{◌≡◌, ◌++◌, map, drop, string_bytes}
use Rattle.std.specs.List.{flat_map}
use Rattle.content_de.specs.Reads.Names.{quoted}
use Rattle.content_de.proofs.unknown_names.push_names.Given as goal

-- the text so far with what is left is the whole
abbrev pub invariant-loop-other : goal.invariant-loop-other
invariant-loop-other l = string_bytes l.text ++ flat_map (λ n. l.fn.between ++ quoted n) (map (λ name. name.now) (drop l.other-index l.others)) ≡ string_bytes l.initial.text ++ flat_map (λ n. l.fn.between ++ quoted n) (map (λ name. name.now) l.others)
