use Rattle.std.proofs.Common.{◌≡◌, drop}
use Rattle.content_tree.specs.Orders.Images.{images_cmp, image_pairs_cmp, image_fields_cmp}
use Rattle.content_tree.specs.Images.Found.{images_view, image_pairs_view, image_fields_view}
use Rattle.content_tree.proofs.compare.image.+compare.Given as goal

abbrev pub invariant-compare_items-loop-i : goal.invariant-compare_items-loop-i
invariant-compare_items-loop-i l =
    images_cmp (images_view l.xs.items) (images_view l.ys.items)
    ≡ images_cmp (images_view (drop l.i l.xs.items)) (images_view (drop l.i l.ys.items))

abbrev pub invariant-compare_pairs-loop-i : goal.invariant-compare_pairs-loop-i
invariant-compare_pairs-loop-i l =
    image_pairs_cmp (image_pairs_view l.xs.items) (image_pairs_view l.ys.items)
    ≡ image_pairs_cmp (image_pairs_view (drop l.i l.xs.items)) (image_pairs_view (drop l.i l.ys.items))

abbrev pub invariant-compare_fields-loop-i : goal.invariant-compare_fields-loop-i
invariant-compare_fields-loop-i l =
    image_fields_cmp (image_fields_view l.xs.items) (image_fields_view l.ys.items)
    ≡ image_fields_cmp (image_fields_view (drop l.i l.xs.items)) (image_fields_view (drop l.i l.ys.items))
