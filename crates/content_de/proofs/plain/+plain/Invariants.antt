use Rattle.std.proofs.Common.{◌≡◌, ◌++◌, map}
use Rattle.content_tree.specs.Values.Value.{tree_of, pair_tree}
use Rattle.content_de.specs.Plain.{plain}
use Rattle.content_de.proofs.Plains.{plain_pair, plain_field}
use Rattle.content_de.proofs.plain.+plain.Given as goal

abbrev pub invariant-make_fields_plain-loop-key : goal.invariant-make_fields_plain-loop-key
invariant-make_fields_plain-loop-key l =
    (goal.iterator-make_fields_plain-loop-key).can_next l.key-iterator ×
    (goal.iterator-make_fields_plain-loop-key).is_finite l.key-iterator ×
    (l.fn.fields.items ≡ l.yielded ++ l.key-iterator.rest.items) ×
    (map pair_tree l.made.items ≡ map plain_field l.yielded)

abbrev pub invariant-make_items_plain-loop-item : goal.invariant-make_items_plain-loop-item
invariant-make_items_plain-loop-item l =
    (goal.iterator-make_items_plain-loop-item).can_next l.item-iterator ×
    (goal.iterator-make_items_plain-loop-item).is_finite l.item-iterator ×
    (l.fn.items.items ≡ l.yielded ++ l.item-iterator.rest.items) ×
    (map tree_of l.made.items ≡ map (λ v. plain (tree_of v)) l.yielded)

abbrev pub invariant-make_pairs_plain-loop-key : goal.invariant-make_pairs_plain-loop-key
invariant-make_pairs_plain-loop-key l =
    (goal.iterator-make_pairs_plain-loop-key).can_next l.key-iterator ×
    (goal.iterator-make_pairs_plain-loop-key).is_finite l.key-iterator ×
    (l.fn.pairs.items ≡ l.yielded ++ l.key-iterator.rest.items) ×
    (map pair_tree l.made.items ≡ map plain_pair l.yielded)
