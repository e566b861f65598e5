-- The image of page 01: what is read of it, its sections, and the rules that it decides alone. Assumes nothing.
pub mod Image
pub mod Part
pub mod Section
