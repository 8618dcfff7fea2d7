use Rattle.std.proofs.Common.{◌≡◌, ◌++◌, map, length}
use Rattle.std.specs.Vec.{vec_len, vec_capacity}
use Rattle.content_tree.specs.Values.Tree.{owned}
use Rattle.content_tree.specs.Values.Value.{tree_of, pair_tree, field_tree}
use Rattle.content_tree.proofs.Owning.{owned_pair, owned_field}
use Rattle.content_tree.proofs.owned.+own_value.Given as goal

abbrev pub invariant-own_fields-loop-key : goal.invariant-own_fields-loop-key
invariant-own_fields-loop-key l =
    (goal.iterator-own_fields-loop-key).can_next l.key-iterator ×
    (goal.iterator-own_fields-loop-key).is_finite l.key-iterator ×
    (l.fn.fields.items ≡ l.yielded ++ l.key-iterator.rest.items) ×
    (vec_len l.owned ≡ length l.yielded) × (vec_capacity l.owned ≡ vec_len l.fn.fields) ×
    (map field_tree l.owned.items ≡ map owned_field l.yielded)

abbrev pub invariant-own_items-loop-item : goal.invariant-own_items-loop-item
invariant-own_items-loop-item l =
    (goal.iterator-own_items-loop-item).can_next l.item-iterator ×
    (goal.iterator-own_items-loop-item).is_finite l.item-iterator ×
    (l.fn.items.items ≡ l.yielded ++ l.item-iterator.rest.items) ×
    (vec_len l.owned ≡ length l.yielded) × (vec_capacity l.owned ≡ vec_len l.fn.items) ×
    (map tree_of l.owned.items ≡ map (λ v. owned (tree_of v)) l.yielded)

abbrev pub invariant-own_pairs-loop-key : goal.invariant-own_pairs-loop-key
invariant-own_pairs-loop-key l =
    (goal.iterator-own_pairs-loop-key).can_next l.key-iterator ×
    (goal.iterator-own_pairs-loop-key).is_finite l.key-iterator ×
    (l.fn.pairs.items ≡ l.yielded ++ l.key-iterator.rest.items) ×
    (vec_len l.owned ≡ length l.yielded) × (vec_capacity l.owned ≡ vec_len l.fn.pairs) ×
    (map pair_tree l.owned.items ≡ map owned_pair l.yielded)
