-- The laws of the C interface, and that its contracts leave one answer. Assumes nothing.
pub mod Viewed
pub mod States
pub mod Unique
