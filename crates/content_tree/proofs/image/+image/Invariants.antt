use Rattle.std.proofs.Common.{◌≡◌, take, map}
use Rattle.std.specs.Vec.{vec_len, vec_capacity}
use Rattle.content_tree.specs.Images.Found.{image_view, pair_image, field_image}
use Rattle.content_tree.proofs.Images.{value_image, value_pair_image, value_field_image}
use Rattle.content_tree.proofs.Taking.{Untaken}
use Rattle.content_tree.proofs.image.+image.Given as goal

abbrev pub invariant-found_items-loop-item : goal.invariant-found_items-loop-item
invariant-found_items-loop-item l =
    Untaken l.item-index l.item-items l.fn.items.items ×
    (vec_len l.found ≡ l.item-index) × (vec_capacity l.found ≡ vec_len l.fn.items) ×
    (map image_view l.found.items ≡ map value_image (take l.item-index l.fn.items.items))

abbrev pub invariant-found_pairs-loop-key : goal.invariant-found_pairs-loop-key
invariant-found_pairs-loop-key l =
    Untaken l.key-index l.key-items l.fn.pairs.items ×
    (vec_len l.found ≡ l.key-index) × (vec_capacity l.found ≡ vec_len l.fn.pairs) ×
    (map pair_image l.found.items ≡ map value_pair_image (take l.key-index l.fn.pairs.items))

abbrev pub invariant-found_fields-loop-key : goal.invariant-found_fields-loop-key
invariant-found_fields-loop-key l =
    Untaken l.key-index l.key-items l.fn.fields.items ×
    (vec_len l.found ≡ l.key-index) × (vec_capacity l.found ≡ vec_len l.fn.fields) ×
    (map field_image l.found.items ≡ map value_field_image (take l.key-index l.fn.fields.items))
