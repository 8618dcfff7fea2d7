use Rattle.std.proofs.Common.{◌≡◌, vec_len, []}
use Rattle.content_build.specs.Inner.Frames.{cells_of}
use Rattle.content_build.specs.Inner.Forest.{read}
use Rattle.content_build.specs.Inner.Values.{grown_trees}
use Rattle.content_build.proofs.grow.grow.Given as goal

abbrev pub invariant-loop-alloc : goal.invariant-loop-alloc
invariant-loop-alloc l = read (cells_of l.frames.items) (grown_trees l.grown.items) ≡ read (cells_of l.fn.frames.items) []

abbrev pub decreases-loop-alloc : goal.decreases-loop-alloc
decreases-loop-alloc l = vec_len l.frames
