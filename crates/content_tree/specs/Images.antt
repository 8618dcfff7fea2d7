-- What contracts see of a `Found`.
pub mod Image
pub mod Found
