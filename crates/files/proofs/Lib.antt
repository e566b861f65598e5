-- The part of a buffer that a line was written into. Assumes nothing.
pub mod Line
