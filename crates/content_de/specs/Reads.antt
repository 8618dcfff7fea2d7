-- What a type reads: which refusal comes first in reading order, and which values may be given.
pub mod Read
pub mod Paths
pub mod Access
pub mod Standard
pub mod Tuples
pub mod Arrays
pub mod Maps
pub mod Pairs
pub mod Sets
pub mod Hashed
pub mod Names
pub mod Own
pub mod ByName
pub mod Durations
pub mod Attempts
pub mod Tagged
pub mod Addresses
