pub mod Answering
pub mod Decoding
pub mod Telling
