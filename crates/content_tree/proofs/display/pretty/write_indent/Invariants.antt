use Rattle.std.proofs.Common.{◌≡◌, ℕ, List, ◌++◌}
use Rattle.std.specs.Fmt.{HasWrittenStyled, IsFlush}
use Rattle.content_tree.specs.Printed.Pretty.{indent}
use Rattle.content_tree.proofs.display.pretty.write_indent.Given as goal

abbrev pub invariant-loop-left : goal.invariant-loop-left
invariant-loop-left g l =
    IsFlush l.fn.f → (done : List ℕ) × HasWrittenStyled g.W.Write.write_str_gives l.fn.f done l.f × (done ++ indent l.left ≡ indent l.fn.level)

abbrev pub decreases-loop-left : goal.decreases-loop-left
decreases-loop-left g l = l.left
