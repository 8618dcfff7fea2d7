use Rattle.std.proofs.Common.{◌≡◌, ◌≤◌, None, drop, length}
use Rattle.content_tree.specs.Values.Lookups.{last_value}
use Rattle.content_tree.specs.Values.Paths.{unescape}
use Rattle.content_tree.specs.Values.Places.{is_key}
use Rattle.content_tree.specs.Values.Value.{pairs_view}
use Rattle.content_tree.proofs.trades.last_spelled_index.Given as goal

-- none of the last ones has the key
abbrev pub invariant-loop-left : goal.invariant-loop-left
invariant-loop-left l = (l.left ≤ length l.fn.pairs) × (last_value (is_key (unescape l.fn.piece)) (pairs_view (drop l.left l.fn.pairs)) ≡ None)

abbrev pub decreases-loop-left : goal.decreases-loop-left
decreases-loop-left l = l.left
