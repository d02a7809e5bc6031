-- `Outcomes` has what callers may cite; the others are for the proofs of the functions.
pub mod Outcomes
pub mod Calls
pub mod Counts
