-- The words of the uses.
pub mod Merged
pub mod MergingLaws
pub mod Places
pub mod Records
pub mod LoadText
pub mod Saved
