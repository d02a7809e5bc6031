-- `Processors` is for the proofs of the functions; `Outcome` is that there is one answer.
pub mod Processors
pub mod Outcome
