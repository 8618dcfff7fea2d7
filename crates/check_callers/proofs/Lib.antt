mod Unplaced
mod Points
