use Rattle.std.proofs.Common.{refl}
use Rattle.content_tree.proofs.PathEditing.{entry_in, entry_fits}
use Rattle.content_tree.specs.Values.Value.{tree_of}
use Rattle.content_tree.proofs.path_edits.add_entry.Goals as goal

pub returns-in-Ok : goal.returns-in-Ok
returns-in-Ok c =
    let spelled = rw c.in-Ok-Some.field-0-is at c.in-Ok-Some.ensures in
    entry_in c.args.piece.now c.in-Ok-Some.text c.args.value c.args.pairs.now.items _ spelled c.in-Ok.ensures.items

pub returns-in-Err : goal.returns-in-Err
returns-in-Err c = (refl, (refl, entry_fits c.args.piece.now (tree_of c.args.value) c.args.pairs.now.items c.in-Err.ensures))
