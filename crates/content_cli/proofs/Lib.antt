pub mod Earned
pub mod Reading
pub mod Told
