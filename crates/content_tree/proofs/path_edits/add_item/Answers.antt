use Rattle.std.proofs.Common.{ap, refl, true, false}
use Rattle.content_tree.proofs.PathEditing.{item_in, item_fits}
use Rattle.content_tree.specs.Values.Tree.{seq}
use Rattle.content_tree.specs.Values.Value.{trees_view}
use Rattle.content_tree.proofs.path_edits.add_item.Goals as goal

pub returns-then-not-names_end : goal.returns-then-not-names_end
returns-then-not-names_end c =
    let ends = rw c.deref.ensures.value at c.if-not-names_end.ensures in
    (refl, (refl, item_fits c.args.piece.now false c.args.value c.args.items.now.items ends))

pub returns-in-Ok : goal.returns-in-Ok
returns-in-Ok c =
    let ends = rw c.deref.ensures.value at c.if-not-names_end.ensures in
    item_in c.args.piece.now true c.args.value c.args.items.now.items _ ends refl c.in-Ok.ensures.items

pub returns-in-Err : goal.returns-in-Err
returns-in-Err c =
    let ends = rw c.deref.ensures.value at c.if-not-names_end.ensures in
    let fits = item_fits c.args.piece.now true c.args.value c.args.items.now.items ends in
    (ap (λ vs. seq (trees_view vs)) c.in-Err.ensures.items, rw c.from.ensures (c.in-Err.ensures.value_returned, fits))
