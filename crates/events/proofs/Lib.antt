-- One law for every way that the match can go, and that there is one answer.
pub mod Runs
pub mod Outcome
