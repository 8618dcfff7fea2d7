use Rattle.std.proofs.Common.{◌≡◌, ◌++◌, length}
use Rattle.content_lines.specs.Numerals.{unhex}
use Rattle.content_lines.proofs.hex.decode.Given as goal

abbrev pub invariant-pairs : goal.invariant-pairs
invariant-pairs l = l.bytes.items ++ unhex l.rest ≡ unhex l.text

abbrev pub decreases-pairs : goal.decreases-pairs
decreases-pairs l = length l.rest
