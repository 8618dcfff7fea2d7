-- Calls, by their contents.
pub mod Event
pub mod Call
pub mod Head
