-- The text of an answer. Assumes nothing.
pub mod Text
