-- What is said of functions that read and send fields, and of conversions.
pub mod Converted
pub mod Rules
