-- The laws that the crates above cite: the padding, how the hash grows by blocks, and one digest computed. Assumes nothing.
pub mod Pad
pub mod Hash
pub mod Example
