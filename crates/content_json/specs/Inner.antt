-- Words of what is private.
pub mod Steps
pub mod Strings
pub mod Numbers
pub mod Reading
