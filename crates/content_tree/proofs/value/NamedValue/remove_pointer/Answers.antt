use Rattle.std.proofs.Common.{refl}
use Rattle.content_tree.proofs.Cuts.{none_last, rsplit_cut, rsplit_none}
use Rattle.content_tree.proofs.PathEditing.{removed_back, not_removed}
use Rattle.content_tree.specs.Values.PathEdits.{part_removed}
use Rattle.content_tree.specs.Values.Value.{tree_of}
use Rattle.content_tree.specs.declared.value.NamedValue as value
use Rattle.content_tree.proofs.value.NamedValue.remove_pointer.Goals as goal

pub returns-in_err-parents : goal.returns-in_err-parents
returns-in_err-parents c =
    let slash = rsplit_none c.args.path.now c.in_err-parents.ensures.cases in
    rw c.from_residual.ensures (none_last part_removed c.args.path.now (tree_of c.args.self.now) slash, refl)

pub returns-in-Ok : goal.returns-in-Ok
returns-in-Ok c =
    let front = c.in_ok-parents.parents.now in
    let last = c.in_ok-parents.piece.now in
    let cut = rsplit_cut c.args.path.now front last c.in_ok-parents.ensures.cases in
    removed_back c.args.path.now front last (tree_of c.args.self.now) (tree_of c.trade.new.place) _ value.Unit c.in-Ok.parent
    c.remove_part-removed.new.parent c.remove_part-removed.result c.trade-unit.result cut.0 cut.1 c.in-Ok.ensures c.remove_part-removed.ensures c.trade-unit.ensures

pub returns-in-Err : goal.returns-in-Err
returns-in-Err c =
    let front = c.in_ok-parents.parents.now in
    let last = c.in_ok-parents.piece.now in
    let cut = rsplit_cut c.args.path.now front last c.in_ok-parents.ensures.cases in
    not_removed c.args.path.now front last (tree_of c.args.self.now) (tree_of c.trade.new.place) value.Unit c.in-Err._unit cut.0 cut.1 c.in-Err.ensures
