pub mod Lists
pub mod Sending
pub mod Printing
pub mod Beginning
pub mod Placing
pub mod Walking
pub mod Spelling
pub mod Sorting
pub mod Twice
pub mod SameScript
pub mod Naming
pub mod Canonically
mod DerivedEquality
pub mod Equality
pub mod Listed
pub mod Making
