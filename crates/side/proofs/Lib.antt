-- Laws over plain variables: the first two are for the proofs of the functions, the others for callers.
pub mod Keys
pub mod Sides
pub mod Buckets
pub mod Sends
pub mod Outcome
