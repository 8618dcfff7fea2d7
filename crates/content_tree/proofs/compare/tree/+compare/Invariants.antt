use Rattle.std.proofs.Common.{◌≡◌, drop}
use Rattle.content_tree.specs.Orders.Trees.{trees_cmp, pairs_cmp, fields_cmp}
use Rattle.content_tree.specs.Values.Value.{trees_view, pairs_view, fields_view}
use Rattle.content_tree.proofs.compare.tree.+compare.Given as goal

abbrev pub invariant-compare_items-loop-i : goal.invariant-compare_items-loop-i
invariant-compare_items-loop-i l =
    trees_cmp (trees_view l.xs.items) (trees_view l.ys.items)
    ≡ trees_cmp (trees_view (drop l.i l.xs.items)) (trees_view (drop l.i l.ys.items))

abbrev pub invariant-compare_pairs-loop-i : goal.invariant-compare_pairs-loop-i
invariant-compare_pairs-loop-i l =
    pairs_cmp (pairs_view l.xs.items) (pairs_view l.ys.items)
    ≡ pairs_cmp (pairs_view (drop l.i l.xs.items)) (pairs_view (drop l.i l.ys.items))

abbrev pub invariant-compare_fields-loop-i : goal.invariant-compare_fields-loop-i
invariant-compare_fields-loop-i l =
    fields_cmp (fields_view l.xs.items) (fields_view l.ys.items)
    ≡ fields_cmp (fields_view (drop l.i l.xs.items)) (fields_view (drop l.i l.ys.items))
