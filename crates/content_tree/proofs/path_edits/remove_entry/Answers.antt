use Rattle.std.proofs.Common.{refl}
use Rattle.content_tree.proofs.Editing.{here}
use Rattle.content_tree.proofs.PathEditing.{entry_out, entry_stays}
use Rattle.content_tree.proofs.path_edits.remove_entry.Goals as goal

pub returns-in-Some : goal.returns-in-Some
returns-in-Some c =
    let last = rw c.deref.ensures.value at c.in-Some.ensures in
    entry_out c.args.piece.now c.args.pairs.now.items _ c.in-Some.index c.remove_pair.result last (c.remove_pair.ensures.value here) c.remove_pair.ensures.pairs

pub returns-in-None : goal.returns-in-None
returns-in-None c =
    let none = rw c.deref.ensures.value at c.in-None.ensures in
    (entry_stays c.args.piece.now c.args.pairs.now.items none, refl)
