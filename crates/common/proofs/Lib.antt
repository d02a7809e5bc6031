-- The laws of the table, and that the statements leave one answer.
pub mod Tables
pub mod Outcome
