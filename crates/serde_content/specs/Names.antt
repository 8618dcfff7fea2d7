-- Names of the crates below that the facade passes on, for crates that use it alone.
pub mod Words
pub mod Event
pub mod ErrorKind
pub mod Number
pub mod Tree
pub mod Cause
pub mod Aside
