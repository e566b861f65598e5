-- The line that stands for an image that is too long. Assumes nothing.
pub mod Inputs
