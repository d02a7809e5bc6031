-- The laws that the proofs of this crate cite, and that each statement leaves one answer.
pub mod Outcome
