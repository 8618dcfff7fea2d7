use Rattle.std.proofs.Common.{◌≡◌, sym, ap, ◌∙◌, arith}
use Rattle.content_tree.specs.Values.Tree as tree
use Rattle.content_tree.specs.Values.Value.{trees_of, pairs_of, trees_view, pairs_view, fields_view}
use Rattle.content_tree.proofs.Owning.{nothing_left}
use Rattle.content_tree.proofs.Views.{tree_of-Map, tree_data_of-Struct}
use Rattle.content_de.specs.Plain.{plain_each, plain_pairs, plain_fields}
use Rattle.content_de.proofs.Plains.{trees_plain, pairs_plain, fields_plain}
use Rattle.content_de.proofs.plain.+plain.Goals as goal

pub make_data_plain-returns-in_ok-make_fields_plain-in-Struct :
    goal.make_data_plain-returns-in_ok-make_fields_plain-in-Struct
make_data_plain-returns-in_ok-make_fields_plain-in-Struct t c =
    let made = c.in_ok-make_fields_plain-in-Struct.field-0 in
    rw (c.in-Struct.is, tree_data_of-Struct c.in-Struct.fields, tree_of-Map made) (ap tree.map c.in_ok-make_fields_plain-in-Struct.ensures)

pub make_fields_plain-returns : goal.make_fields_plain-returns
make_fields_plain-returns t c =
    let all : c.args.fields.items ≡ c.loop-key.yielded = nothing_left _ _ _ c.loop-key.invariant.2 (omega (arith, c.in-None.ensures.steps.0)) in
    ap pairs_of c.loop-key.invariant.3 ∙ fields_plain c.loop-key.yielded ∙ ap (λ fs. plain_fields (fields_view fs)) (sym all)

pub make_items_plain-returns : goal.make_items_plain-returns
make_items_plain-returns t c =
    let all : c.args.items.items ≡ c.loop-item.yielded = nothing_left _ _ _ c.loop-item.invariant.2 (omega (arith, c.in-None.ensures.steps.0)) in
    ap trees_of c.loop-item.invariant.3 ∙ trees_plain c.loop-item.yielded ∙ ap (λ ts. plain_each (trees_view ts)) (sym all)

pub make_pairs_plain-returns : goal.make_pairs_plain-returns
make_pairs_plain-returns t c =
    let all : c.args.pairs.items ≡ c.loop-key.yielded = nothing_left _ _ _ c.loop-key.invariant.2 (omega (arith, c.in-None.ensures.steps.0)) in
    ap pairs_of c.loop-key.invariant.3 ∙ pairs_plain c.loop-key.yielded ∙ ap (λ ps. plain_pairs (pairs_view ps)) (sym all)
