use Rattle.std.proofs.Common.{◌-◌, ◌≤◌, vec_len}
use Rattle.content_build.proofs.grow.count_at_first.Given as goal

abbrev pub decreases-loop-at : goal.decreases-loop-at
decreases-loop-at l = vec_len l.frames - l.at

abbrev pub invariant-loop-at-2 : goal.invariant-loop-at-2
invariant-loop-at-2 l = l.count ≤ l.at

abbrev pub decreases-loop-at-2 : goal.decreases-loop-at-2
decreases-loop-at-2 l = vec_len l.frames - l.at
