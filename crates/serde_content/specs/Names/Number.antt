-- The numbers of the ten kinds.
pub use Rattle.content_tree.specs.declared.number.Number.TheVariants.{I8, U8, I16, U16, I32, U32}
pub use Rattle.content_tree.specs.declared.number.Number.TheVariants.{I64, U64, I128, U128}
