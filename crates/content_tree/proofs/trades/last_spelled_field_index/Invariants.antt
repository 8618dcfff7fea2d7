use Rattle.std.proofs.Common.{◌≡◌, ◌≤◌, None, drop, length}
use Rattle.content_tree.specs.Values.Places.{found_field}
use Rattle.content_tree.specs.Values.Paths.{unescape}
use Rattle.content_tree.specs.Values.Value.{fields_view}
use Rattle.content_tree.proofs.trades.last_spelled_field_index.Given as goal

-- none of the last ones has the name
abbrev pub invariant-loop-left : goal.invariant-loop-left
invariant-loop-left l =
    (l.left ≤ length l.fn.fields) × (found_field (unescape l.fn.piece) (fields_view (drop l.left l.fn.fields)) ≡ None)

abbrev pub decreases-loop-left : goal.decreases-loop-left
decreases-loop-left l = l.left
