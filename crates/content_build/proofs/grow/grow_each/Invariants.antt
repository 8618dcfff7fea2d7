use Rattle.std.proofs.Common.{◌≡◌, take, vec_len}
use Rattle.content_build.specs.Inner.Frames.{cells_of}
use Rattle.content_build.specs.Inner.Forest.{read}
use Rattle.content_build.specs.Inner.Values.{grown_trees}
use Rattle.content_build.proofs.grow.grow_each.Given as goal

abbrev pub invariant-loop-alloc : goal.invariant-loop-alloc
invariant-loop-alloc l = record {
  same : read (cells_of l.frames.items) (grown_trees l.grown.items) ≡ read (cells_of l.initial.frames.items) (grown_trees l.initial.grown.items);
  first : take l.to l.frames.items ≡ take l.to l.initial.frames.items;
}

abbrev pub decreases-loop-alloc : goal.decreases-loop-alloc
decreases-loop-alloc l = vec_len l.frames
