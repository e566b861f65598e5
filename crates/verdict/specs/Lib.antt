-- The verdict on a launch: refusals with the page's numbers and places, and the row of rules. Assumes nothing.
pub mod Refusal
pub mod Turns
pub mod Rules
