-- Words of what is private.
pub mod Steps
pub mod Numbers
pub mod Texts
pub mod Reading
pub mod Output
