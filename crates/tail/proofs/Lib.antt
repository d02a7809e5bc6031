-- The laws of the end of a line, and that there is one answer besides doubt.
pub mod Clears
pub mod Tails
pub mod Outcome
