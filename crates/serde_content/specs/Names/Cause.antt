-- The causes of errors, by contents.
pub use Rattle.content_tree.specs.Errors.Cause.{unexpected, custom, out_of_memory, misplaced}
pub use Rattle.content_tree.specs.Errors.Cause.{failed, unfinished}
