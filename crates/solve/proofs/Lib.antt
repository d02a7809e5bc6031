-- `Outcome` has that one answer fits; `Engine` and `Matches` are for the proofs of the functions.
pub mod Engine
pub mod Matches
pub mod Outcome
