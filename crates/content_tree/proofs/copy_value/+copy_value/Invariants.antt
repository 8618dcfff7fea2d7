use Rattle.std.proofs.Common.{◌≡◌, take, map, length}
use Rattle.std.specs.Vec.{vec_len, vec_capacity}
use Rattle.content_tree.specs.Values.Value.{tree_of, pair_tree, field_tree}
use Rattle.content_tree.proofs.copy_value.+copy_value.Given as goal

abbrev pub invariant-clone_fields-loop-key : goal.invariant-clone_fields-loop-key
invariant-clone_fields-loop-key l =
    (map field_tree l.copies.items ≡ map field_tree (take l.key-index l.key-items)) ×
    (vec_len l.copies ≡ l.key-index) × (vec_capacity l.copies ≡ length l.key-items)

abbrev pub invariant-clone_items-loop-item : goal.invariant-clone_items-loop-item
invariant-clone_items-loop-item l =
    (map tree_of l.copies.items ≡ map tree_of (take l.item-index l.item-items)) ×
    (vec_len l.copies ≡ l.item-index) × (vec_capacity l.copies ≡ length l.item-items)

abbrev pub invariant-clone_pairs-loop-key : goal.invariant-clone_pairs-loop-key
invariant-clone_pairs-loop-key l =
    (map pair_tree l.copies.items ≡ map pair_tree (take l.key-index l.key-items)) ×
    (vec_len l.copies ≡ l.key-index) × (vec_capacity l.copies ≡ length l.key-items)
