use Rattle.std.proofs.Common.{◌≡◌, ◌<◌, ◌≤◌, length, refl, subst, arith, IfSome}
use Rattle.content_tree.specs.Values.Paths.{index_of}
use Rattle.content_tree.proofs.PathEditing.{item_out, item_stays}
use Rattle.content_tree.proofs.path_edits.remove_item.Goals as goal

pub returns-in-Some : goal.returns-in-Some
returns-in-Some c =
    let vs = c.args.items.now.items in
    let less : c.in-Some.index < length vs = omega (arith, c.in-Some.ensures.1, c.len.ensures) in
    item_out c.args.piece.now vs _ c.in-Some.index c.remove.result c.in-Some.ensures.0 less c.remove.ensures.value c.remove.ensures.items

pub returns-in-None : goal.returns-in-None
returns-in-None c =
    let same : c.len.result ≡ length c.args.items.now.items = omega (arith, c.len.ensures) in
    let past = subst (λ n. IfSome (index_of c.args.piece.now) (λ i. n ≤ i)) same c.in-None.ensures in
    (item_stays c.args.piece.now c.args.items.now.items past, refl)
