-- What an error says.
pub mod Kind
pub mod Cause
pub mod Unexpected
pub mod Where
