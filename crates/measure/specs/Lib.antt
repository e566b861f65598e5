-- The measured stream of page 01, what it tells, and its measurement in turns. Assumes nothing.
pub mod Stream
pub mod Turn
pub mod Turns
pub mod Told
