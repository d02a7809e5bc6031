-- From one space to the next, and that there is one answer.
pub mod Spaces
pub mod Outcome
