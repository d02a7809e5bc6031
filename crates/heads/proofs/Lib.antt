-- The laws of a line at a place, and that the statement leaves one answer.
pub mod Stamps
pub mod Outcome
