-- Which lists of calls spell a tree.
pub mod Token
pub mod Spells
pub mod Depth
