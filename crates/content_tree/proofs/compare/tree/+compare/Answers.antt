use Rattle.std.proofs.Common.{refl, arith, rules}
use Rattle.content_tree.specs.Orders.Trees.{trees_cmp, pairs_cmp, fields_cmp}
use Rattle.content_tree.specs.Values.Value.{trees_view, pairs_view, fields_view}
use Rattle.content_tree.proofs.Ends.{at_the_end}
use Rattle.content_tree.proofs.Views.{tree_data_of-Struct}
use Rattle.content_tree.proofs.compare.tree.+compare.Goals as goal

pub compare_data-returns-in-Struct-Struct : goal.compare_data-returns-in-Struct-Struct
compare_data-returns-in-Struct-Struct t c = grind (rules, tree_data_of-Struct)

pub compare_items-returns : goal.compare_items-returns
compare_items-returns t c =
    let e = at_the_end (λ xs ys. trees_cmp (trees_view xs) (trees_view ys)) refl (λ y ys. refl) (λ x xs. refl)
    c.args.xs.now.items c.args.ys.now.items c.loop-i.i (omega arith) (omega arith) (λ p q. omega arith) in
    search (rules, e)

pub compare_pairs-returns : goal.compare_pairs-returns
compare_pairs-returns t c =
    let e = at_the_end (λ xs ys. pairs_cmp (pairs_view xs) (pairs_view ys)) refl (λ y ys. refl) (λ x xs. refl)
    c.args.xs.now.items c.args.ys.now.items c.loop-i.i (omega arith) (omega arith) (λ p q. omega arith) in
    search (rules, e)

pub compare_fields-returns : goal.compare_fields-returns
compare_fields-returns t c =
    let e = at_the_end (λ xs ys. fields_cmp (fields_view xs) (fields_view ys)) refl (λ y ys. refl) (λ x xs. refl)
    c.args.xs.now.items c.args.ys.now.items c.loop-i.i (omega arith) (omega arith) (λ p q. omega arith) in
    search (rules, e)
