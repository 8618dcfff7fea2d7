pub mod Answers
pub mod Arguments
