-- The words of JSON.
pub mod Strings
pub mod Layout
pub mod Leaves
pub mod Keys
pub mod Json
pub mod Encoded
pub mod PrintedError
pub mod Inner
pub mod Codes
pub mod PrintedFault
pub mod Decoded
