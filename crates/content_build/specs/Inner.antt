-- What the private parts of a builder mean.
pub mod Tokens
pub mod Cells
pub mod Forest
pub mod Leaves
pub mod Decoding
pub mod Frames
pub mod Sound
pub mod Tape
pub mod Values
pub mod Taken
pub mod Steps
