-- `Outcome` is what the public call comes to.
pub mod Outcome
