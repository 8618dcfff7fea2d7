-- What a `Deserializer` reads from.
pub mod Origin
pub mod Deserializer
pub mod Order
