-- Typed data that come back from CBOR.
pub mod Kept
pub mod Leaves
pub mod Holders
pub mod Series
pub mod Arrays
pub mod Maps
pub mod Made
pub mod Sets
pub mod HashMaps
pub mod Texts
pub mod Records
pub mod ByName
pub mod Variants
pub mod Addresses
pub mod Tagged
pub mod Flattened
