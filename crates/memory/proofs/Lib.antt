-- The laws that the crates above cite: rows of rules and their first fault, the rules in plain facts, a map that keeps them,
-- and what lies inside a record; and the definitions computed. Assumes nothing.
pub mod First
pub mod Numbered
pub mod Broken
pub mod Kept
pub mod Inside
pub mod Example
