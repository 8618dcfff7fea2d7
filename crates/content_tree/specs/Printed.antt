-- What images, values, expectations and errors print.
pub mod Images
pub mod Values
pub mod Errors
pub mod Paths
pub mod Escapes
pub mod Pretty
