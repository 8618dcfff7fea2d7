use Rattle.std.proofs.Common.{arith}
use Rattle.content_tree.proofs.PathEditing.{ends_index, ends_none}
use Rattle.content_tree.proofs.path_edits.names_end.Goals as goal

pub returns-in-Some : goal.returns-in-Some
returns-in-Some c = ends_index c.args.piece.now c.args.items.now c.in-Some.index c.if-eq.ensures c.in-Some.ensures

pub returns-in-None : goal.returns-in-None
returns-in-None c = ends_none c.args.piece.now c.args.items.now (omega arith) c.if-eq.ensures c.in-None.ensures
