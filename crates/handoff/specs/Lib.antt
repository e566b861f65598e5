-- The hand-off block list of page 01: the pieces of the map, and the list's bytes. Assumes nothing.
pub mod Pieces
pub mod List
pub mod Cover
