use Rattle.std.proofs.Common.{◌≡◌, ◌≤◌, None, drop, length}
use Rattle.content_tree.specs.Values.Lookups.{last_value}
use Rattle.content_tree.specs.Values.Value.{tree_of, pairs_view}
use Rattle.content_tree.specs.Orders.Trees.{same_tree}
use Rattle.content_tree.proofs.edits.last_equal_index.Given as goal

-- none of the last ones has the key
abbrev pub invariant-loop-left : goal.invariant-loop-left
invariant-loop-left l = (l.left ≤ length l.fn.pairs) × (last_value (λ k. same_tree k (tree_of l.fn.key)) (pairs_view (drop l.left l.fn.pairs)) ≡ None)

abbrev pub decreases-loop-left : goal.decreases-loop-left
decreases-loop-left l = l.left
