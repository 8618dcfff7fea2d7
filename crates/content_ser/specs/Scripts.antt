-- By which calls a type is sent.
pub mod Script
pub mod Sends
pub mod Direct
pub mod Standard
pub mod Arrays
pub mod Replay
pub mod Begins
pub mod Own
pub mod Durations
pub mod Addresses
