-- The laws of the ending: the times copied, and that there is one answer.
pub mod Copying
pub mod Outcome
