use Rattle.std.proofs.Common.{◌≡◌, ◌≤◌, None, drop, length}
use Rattle.content_tree.specs.Values.Lookups.{last_field}
use Rattle.content_tree.specs.Values.Value.{fields_view}
use Rattle.content_tree.proofs.lookup.last_field.Given as goal

-- none of the last ones has the key
abbrev pub invariant-loop-left : goal.invariant-loop-left
invariant-loop-left l = (l.left ≤ length l.fn.fields) × (last_field l.fn.key (fields_view (drop l.left l.fn.fields)) ≡ None)

abbrev pub decreases-loop-left : goal.decreases-loop-left
decreases-loop-left l = l.left
