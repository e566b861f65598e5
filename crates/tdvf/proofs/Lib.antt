-- The laws that the crates above cite. Assumes nothing.
pub mod Tried
pub mod Kept
pub mod Descriptor
pub mod Shares
pub mod Sums
pub mod Rest
pub mod Example
pub mod Alike
