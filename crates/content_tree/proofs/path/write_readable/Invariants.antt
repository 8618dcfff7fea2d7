use Rattle.std.proofs.Common.{◌≡◌, ℕ, ◌≤◌, List, [], ◌++◌, take, length}
use denote.Text.{Utf8}
use denote.Shadow.{shadow}
use Rattle.std.specs.Fmt.{HasWrittenStyled, IsFlush}
use Rattle.content_tree.specs.Errors.Where.{places_of}
use Rattle.content_tree.specs.Printed.Paths.{written_path}
use Rattle.content_tree.proofs.path.write_readable.Given as goal

abbrev pub invariant-loop-left : goal.invariant-loop-left
invariant-loop-left g l =
    shadow (Utf8 l.lead) × (l.left ≤ length l.steps.items) × (IsFlush l.fn.f → (done : List ℕ) × HasWrittenStyled g.W.Write.write_str_gives l.fn.f done l.f
    × (done ++ written_path l.lead (places_of (take l.left l.steps.items)) ≡ written_path [] (places_of l.steps.items)))

abbrev pub decreases-loop-left : goal.decreases-loop-left
decreases-loop-left g l = l.left
