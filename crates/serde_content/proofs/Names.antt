-- Lemmas that the facade passes on, for proofs of crates that use it alone.
pub use Rattle.content_tree.proofs.Owning.{nothing_left}
pub use Rattle.content_tree.proofs.SameTree.{trees_tie}
pub use Rattle.content_tree.specs.Laws.RankedTree.{tree_equiv}
pub use Rattle.content_ser.specs.Laws.ScriptsInTurn.{calls_of_both, stop_of_both, stopped_both}
pub use Rattle.serde_content.proofs.Scripts.{and_then-assoc, run-append}
pub use Rattle.serde_content.proofs.ComingBack.{read_such, read_or_memory}
