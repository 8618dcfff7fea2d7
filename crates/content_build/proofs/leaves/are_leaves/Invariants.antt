use Rattle.std.proofs.Common.{◌-◌, ◌≤◌, drop, vec_len}
use Rattle.content_build.specs.Inner.Frames.{cells_of}
use Rattle.content_build.specs.Inner.Leaves.{AreLeaves}
use Rattle.content_build.proofs.leaves.are_leaves.Given as goal

abbrev pub invariant-loop-at : goal.invariant-loop-at
invariant-loop-at l = record {
  low : l.from ≤ l.at;
  inside : l.at ≤ vec_len l.frames;
  leaves : AreLeaves (drop l.at (cells_of l.frames.items));
}

abbrev pub decreases-loop-at : goal.decreases-loop-at
decreases-loop-at l = l.at - l.from
