-- The kinds of errors.
pub use Rattle.content_tree.specs.declared.error.ErrorKind.TheVariants.{Unexpected, Custom}
pub use Rattle.content_tree.specs.declared.error.ErrorKind.TheVariants.{OutOfMemory}
pub use Rattle.content_tree.specs.declared.error.ErrorKind.TheVariants.{Misplaced, Failed}
pub use Rattle.content_tree.specs.declared.error.ErrorKind.TheVariants.{Unfinished}
