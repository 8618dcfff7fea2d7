-- What sequences, maps and variants have left, and what their calls answer.
pub mod Seq
pub mod Map
pub mod Enum
pub mod Node
pub mod ByName
