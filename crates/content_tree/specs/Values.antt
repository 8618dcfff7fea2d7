-- What contracts see of a `Value` and its texts.
pub mod Text
pub mod Cases
pub mod Tree
pub mod Value
pub mod Ranges
pub mod Lookups
pub mod Paths
pub mod Pointers
pub mod Places
pub mod Edits
pub mod PathEdits
pub mod Trades
pub mod Parts
