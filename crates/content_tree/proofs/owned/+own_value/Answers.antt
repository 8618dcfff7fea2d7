use Rattle.std.proofs.Common.{◌≡◌, sym, ap, ◌∙◌, rules, arith}
use Rattle.content_tree.specs.Values.Text.{to_owned}
use Rattle.content_tree.specs.Values.Tree.{at_texts_each, at_texts_pairs, at_texts_fields}
use Rattle.content_tree.specs.Values.Value.{trees_of, pairs_of, fields_of, trees_view, pairs_view}
use Rattle.content_tree.specs.Values.Value.{fields_view}
use Rattle.content_tree.proofs.Owning.{trees_owned, pairs_owned, fields_owned, nothing_left}
use Rattle.content_tree.proofs.Views.{tree_data_of-Struct}
use Rattle.content_tree.proofs.owned.+own_value.Goals as goal

pub own_data-returns-in_ok-own_fields-in-Struct-clause-value :
    goal.own_data-returns-in_ok-own_fields-in-Struct-clause-value
own_data-returns-in_ok-own_fields-in-Struct-clause-value t c = grind (rules, tree_data_of-Struct)

pub own_fields-returns : goal.own_fields-returns
own_fields-returns t c =
    let all : c.args.fields.items ≡ c.loop-key.yielded = nothing_left _ _ _ c.loop-key.invariant.2 (omega (arith, c.in-None.ensures.steps.0)) in
    ap fields_of c.loop-key.invariant.5 ∙ fields_owned c.loop-key.yielded ∙ ap (λ fs. at_texts_fields to_owned (λ n. n) (fields_view fs)) (sym all)

pub own_items-returns : goal.own_items-returns
own_items-returns t c =
    let all : c.args.items.items ≡ c.loop-item.yielded = nothing_left _ _ _ c.loop-item.invariant.2 (omega (arith, c.in-None.ensures.steps.0)) in
    ap trees_of c.loop-item.invariant.5 ∙ trees_owned c.loop-item.yielded ∙ ap (λ ts. at_texts_each to_owned (λ n. n) (trees_view ts)) (sym all)

pub own_pairs-returns : goal.own_pairs-returns
own_pairs-returns t c =
    let all : c.args.pairs.items ≡ c.loop-key.yielded = nothing_left _ _ _ c.loop-key.invariant.2 (omega (arith, c.in-None.ensures.steps.0)) in
    ap pairs_of c.loop-key.invariant.5 ∙ pairs_owned c.loop-key.yielded ∙ ap (λ ps. at_texts_pairs to_owned (λ n. n) (pairs_view ps)) (sym all)
