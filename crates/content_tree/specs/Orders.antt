-- The order of trees, of images and of errors.
pub mod Trees
pub mod Images
pub mod Errors
