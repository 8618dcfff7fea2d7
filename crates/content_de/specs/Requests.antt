-- What each request takes and what it refuses.
pub mod Data
pub mod Leaves
pub mod Numbers
pub mod Names
pub mod Compounds
