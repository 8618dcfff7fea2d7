use Rattle.std.proofs.Common.{◌≡◌, vec_len}
use Rattle.content_tree.specs.Values.Value.{trees_view}
use Rattle.content_build.specs.Inner.Forest.{trees_near, past}
use Rattle.content_build.specs.Inner.Values.{grown_trees}
use Rattle.content_build.proofs.Forward.{append_trees}
use Rattle.content_build.proofs.grow.take_items.Given as goal

abbrev pub invariant-loop-left : goal.invariant-loop-left
invariant-loop-left l = (append_trees (trees_view l.items.items) (trees_near l.left (grown_trees l.grown.items)) ≡ trees_near l.fn.size (grown_trees l.initial.grown.items))
    × (past l.left (grown_trees l.grown.items) ≡ past l.fn.size (grown_trees l.initial.grown.items))

abbrev pub decreases-loop-left : goal.decreases-loop-left
decreases-loop-left l = vec_len l.grown
