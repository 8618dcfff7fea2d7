use Rattle.std.proofs.Common.{◌≡◌, ◌≤◌, None, drop, length}
use Rattle.content_tree.specs.Values.Lookups.{last_value, is_text}
use Rattle.content_tree.specs.Values.Value.{pairs_view}
use Rattle.content_tree.proofs.edits.last_text_index.Given as goal

-- none of the last ones has the key
abbrev pub invariant-loop-left : goal.invariant-loop-left
invariant-loop-left l = (l.left ≤ length l.fn.pairs) × (last_value (is_text l.fn.key) (pairs_view (drop l.left l.fn.pairs)) ≡ None)

abbrev pub decreases-loop-left : goal.decreases-loop-left
decreases-loop-left l = l.left
