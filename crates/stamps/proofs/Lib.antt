-- `Outcome` is that there is one answer; `Places` is for the proofs of the functions.
pub mod Places
pub mod Outcome
