-- The launch of page 01: its rules in their order, and its answer. Assumes nothing.
pub mod Host
pub mod Rules
pub mod Stages
pub mod Launch
pub mod Begin
pub mod Demands
pub mod InTurns
pub mod Cases
