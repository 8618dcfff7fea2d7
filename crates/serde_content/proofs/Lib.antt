pub mod Telling
pub mod ComingBack
pub mod Lookups
pub mod Scripts
pub mod Names
pub mod VariantIndex
pub mod Entries
