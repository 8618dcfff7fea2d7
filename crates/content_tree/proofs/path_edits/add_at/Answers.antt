use Rattle.std.proofs.Common.{refl, ap}
use Rattle.std.specs.Option.{is_some}
use Rattle.content_tree.proofs.Cuts.{none_last, rsplit_cut, rsplit_none}
use Rattle.content_tree.proofs.PathEditing.{added_back, not_added}
use Rattle.content_tree.specs.Values.PathEdits.{part_added}
use Rattle.content_tree.specs.Values.Value.{tree_of}
use Rattle.content_tree.specs.declared.value.NamedValue as value
use Rattle.content_tree.proofs.path_edits.add_at.Goals as goal

pub add_part-added-requires : goal.add_part-added-requires
add_part-added-requires c =
    let cut = rsplit_cut c.args.path.now c.in-Some.parents.now c.in-Some.piece.now c.in-Some.ensures.cases in cut.1

pub returns-in-Ok : goal.returns-in-Ok
returns-in-Ok c =
    let front = c.in-Some.parents.now in
    let last = c.in-Some.piece.now in
    let cut = rsplit_cut c.args.path.now front last c.in-Some.ensures.cases in
    added_back c.args.path.now front last (tree_of c.args.place.now) (tree_of c.trade.new.place) _ value.Unit c.in-Ok.parent
    c.add_part-added.new.parent c.args.value c.add_part-added.result c.trade-unit.result cut.0 cut.1 c.in-Ok.ensures c.add_part-added.ensures c.trade-unit.ensures

pub returns-in-Err : goal.returns-in-Err
returns-in-Err c =
    let front = c.in-Some.parents.now in
    let last = c.in-Some.piece.now in
    let cut = rsplit_cut c.args.path.now front last c.in-Some.ensures.cases in
    not_added (Unit {0}) c.args.path.now front last (tree_of c.args.place.now) (tree_of c.trade.new.place) value.Unit c.in-Err._unit c.args.value cut.0 cut.1 c.in-Err.ensures

pub returns-in-None : goal.returns-in-None
returns-in-None c =
    let slash = rsplit_none c.args.path.now c.in-None.ensures.cases in
    (refl, (refl, ap is_some (none_last (part_added (tree_of c.args.value)) c.args.path.now (tree_of c.args.place.now) slash)))
