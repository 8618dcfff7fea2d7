-- What a call does to a serialiser.
pub mod Step
