-- The words of CBOR.
pub mod Heads
pub mod Item
pub mod Encoded
pub mod Encoder
pub mod Codes
pub mod WellFormed
pub mod Malformed
pub mod FaultBytes
pub mod Form
pub mod Laws
pub mod Inner
pub mod Decoded
pub mod PrintedFault
pub mod Typed
