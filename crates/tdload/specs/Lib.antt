-- What C is told of an answer. Assumes nothing.
pub mod Outward
