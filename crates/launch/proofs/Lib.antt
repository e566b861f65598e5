-- The laws of the launch: its cases computed, its rules, what the writers are handed, the launch whole and in turns, and the owner's demands.
-- Assumes nothing.
pub mod Cases
pub mod Worked
pub mod Verdict
pub mod Places
pub mod Refused
pub mod Filled
pub mod Whole
pub mod OneTurn
pub mod Few
pub mod Unique
pub mod Demands
pub mod Unread
pub mod InTurns
pub mod Shown
pub mod Keeps
pub mod Stage
pub mod Laid
pub mod Order
pub mod Accepted
mod Measured
