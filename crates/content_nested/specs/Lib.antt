pub mod Nested
pub mod Levels
pub mod Within
