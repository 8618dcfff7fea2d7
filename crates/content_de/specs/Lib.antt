pub mod Sources
pub mod Outcomes
pub mod Requests
pub mod Accesses
pub mod Reads
pub mod Plain
pub mod Laws
