-- The laws of table files.
pub mod Turns
pub mod Outcome
pub mod Written
pub mod Back
