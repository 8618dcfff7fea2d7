-- Laws of the definitions.
pub mod Ranked
pub mod RankedTree
pub mod RankedImage
pub mod Paths
pub mod Edits
pub mod PathEdits
