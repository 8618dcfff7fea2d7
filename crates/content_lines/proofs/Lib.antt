pub mod Cutting
pub mod Ending
pub mod Limiting
pub mod Parsed
pub mod Texts
