-- The plan of page 01, and the page view. Assumes nothing.
pub mod Plan
pub mod View
pub mod Once
