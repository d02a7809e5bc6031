-- The laws of the answer.
pub mod Outcomes
