use Rattle.std.proofs.Common.{◌≡◌, ◌++◌, codes, string_bytes}
use Rattle.std.specs.List.{repeat}
use Rattle.content_json.proofs.layout.write_indent.Given as goal

abbrev pub invariant-loop-left : goal.invariant-loop-left
invariant-loop-left l = string_bytes l.out ++ repeat l.left (codes "  ") ≡ string_bytes l.fn.out ++ repeat l.level (codes "  ")

abbrev pub decreases-loop-left : goal.decreases-loop-left
decreases-loop-left l = l.left
