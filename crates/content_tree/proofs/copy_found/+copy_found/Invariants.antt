use Rattle.std.proofs.Common.{◌≡◌, take, map, length}
use Rattle.std.specs.Vec.{vec_len, vec_capacity}
use Rattle.content_tree.specs.Images.Found.{image_view, pair_image, field_image}
use Rattle.content_tree.proofs.copy_found.+copy_found.Given as goal

abbrev pub invariant-clone_items-loop-item : goal.invariant-clone_items-loop-item
invariant-clone_items-loop-item l =
    (map image_view l.copies.items ≡ map image_view (take l.item-index l.item-items)) ×
    (vec_len l.copies ≡ l.item-index) × (vec_capacity l.copies ≡ length l.item-items)

abbrev pub invariant-clone_pairs-loop-key : goal.invariant-clone_pairs-loop-key
invariant-clone_pairs-loop-key l =
    (map pair_image l.copies.items ≡ map pair_image (take l.key-index l.key-items)) ×
    (vec_len l.copies ≡ l.key-index) × (vec_capacity l.copies ≡ length l.key-items)

abbrev pub invariant-clone_fields-loop-key : goal.invariant-clone_fields-loop-key
invariant-clone_fields-loop-key l =
    (map field_image l.copies.items ≡ map field_image (take l.key-index l.key-items)) ×
    (vec_len l.copies ≡ l.key-index) × (vec_capacity l.copies ≡ length l.key-items)
