-- The laws of the six fields.
pub mod Heads
pub mod Outcome
