pub mod Numerals
pub mod Forms
pub mod Words
pub mod Lines
pub mod Views
pub mod Port
pub mod Told
