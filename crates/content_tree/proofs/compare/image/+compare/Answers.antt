use Rattle.std.proofs.Common.{refl, arith, rules}
use Rattle.content_tree.specs.Orders.Images.{images_cmp, image_pairs_cmp, image_fields_cmp}
use Rattle.content_tree.specs.Images.Found.{images_view, image_pairs_view, image_fields_view}
use Rattle.content_tree.proofs.Ends.{at_the_end}
use Rattle.content_tree.proofs.FoundViews.{image_data_view-Struct}
use Rattle.content_tree.proofs.compare.image.+compare.Goals as goal

pub compare_data-returns-in-Struct-Struct : goal.compare_data-returns-in-Struct-Struct
compare_data-returns-in-Struct-Struct t c = grind (rules, image_data_view-Struct)

pub compare_items-returns : goal.compare_items-returns
compare_items-returns t c =
    let e = at_the_end (λ xs ys. images_cmp (images_view xs) (images_view ys)) refl (λ y ys. refl) (λ x xs. refl)
    c.args.xs.now.items c.args.ys.now.items c.loop-i.i (omega arith) (omega arith) (λ p q. omega arith) in
    search (rules, e)

pub compare_pairs-returns : goal.compare_pairs-returns
compare_pairs-returns t c =
    let e = at_the_end (λ xs ys. image_pairs_cmp (image_pairs_view xs) (image_pairs_view ys)) refl (λ y ys. refl) (λ x xs. refl)
    c.args.xs.now.items c.args.ys.now.items c.loop-i.i (omega arith) (omega arith) (λ p q. omega arith) in
    search (rules, e)

pub compare_fields-returns : goal.compare_fields-returns
compare_fields-returns t c =
    let e = at_the_end (λ xs ys. image_fields_cmp (image_fields_view xs) (image_fields_view ys)) refl (λ y ys. refl) (λ x xs. refl)
    c.args.xs.now.items c.args.ys.now.items c.loop-i.i (omega arith) (omega arith) (λ p q. omega arith) in
    search (rules, e)
