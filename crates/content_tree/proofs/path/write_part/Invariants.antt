use Rattle.std.proofs.Common.{◌≡◌, ℕ, List, ◌++◌, length}
use denote.Text.{Utf8}
use denote.Shadow.{shadow}
use Rattle.std.specs.Fmt.{HasWrittenStyled, IsFlush}
use Rattle.content_tree.specs.Values.Paths.{escape}
use Rattle.content_tree.proofs.path.write_part.Given as goal

abbrev pub invariant-loop-plain : goal.invariant-loop-plain
invariant-loop-plain g l =
    shadow (Utf8 l.rest) × (IsFlush l.fn.f → (done : List ℕ) × HasWrittenStyled g.W.Write.write_str_gives l.fn.f done l.f
    × (done ++ escape l.rest ≡ escape l.name))

abbrev pub decreases-loop-plain : goal.decreases-loop-plain
decreases-loop-plain g l = length l.rest
