-- The laws of the plan that the crates above cite: the view, the source of a page's data, the records and reading them back.
-- Assumes nothing.
pub mod Example
pub mod Shown
pub mod Share
pub mod Records
pub mod Back
pub mod Pages
pub mod Alike
pub mod Unique
