-- The memory map of page 01. Assumes nothing.
pub mod Map
