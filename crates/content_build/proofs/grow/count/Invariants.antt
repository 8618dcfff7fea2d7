use Rattle.std.proofs.Common.{◌≤◌, vec_len}
use Rattle.content_build.proofs.grow.count.Given as goal

abbrev pub invariant-loop-left : goal.invariant-loop-left
invariant-loop-left l = l.at ≤ vec_len l.grown

abbrev pub decreases-loop-left : goal.decreases-loop-left
decreases-loop-left l = l.at
