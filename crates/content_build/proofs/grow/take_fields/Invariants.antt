use Rattle.std.proofs.Common.{◌≡◌, vec_len}
use Rattle.content_tree.specs.Values.Value.{fields_view}
use Rattle.content_build.specs.Inner.Forest.{fields_near, past_fields}
use Rattle.content_build.specs.Inner.Values.{grown_trees}
use Rattle.content_build.proofs.Forward.{append_fields}
use Rattle.content_build.proofs.grow.take_fields.Given as goal

abbrev pub invariant-loop-left : goal.invariant-loop-left
invariant-loop-left l = (append_fields (fields_view l.fields.items) (fields_near l.left (grown_trees l.grown.items)) ≡ fields_near l.fn.size (grown_trees l.initial.grown.items))
    × (past_fields l.left (grown_trees l.grown.items) ≡ past_fields l.fn.size (grown_trees l.initial.grown.items))

abbrev pub decreases-loop-left : goal.decreases-loop-left
decreases-loop-left l = vec_len l.grown
