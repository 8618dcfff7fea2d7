use Rattle.std.proofs.Common.{◌≤◌, vec_len}
use Rattle.content_build.proofs.grow.last_node.Given as goal

abbrev pub invariant-loop-at : goal.invariant-loop-at
invariant-loop-at l = l.at ≤ vec_len l.frames

abbrev pub decreases-loop-at : goal.decreases-loop-at
decreases-loop-at l = l.at
