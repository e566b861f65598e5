-- The laws that the crates above cite: lists made in turn, what holds of each member, refusals and rows of rules; the theorems of the
-- verdict, and the verdict computed. Assumes nothing.
pub mod Turns
pub mod Each
pub mod Rules
pub mod Verdict
pub mod Example
