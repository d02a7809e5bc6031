pub mod Pairs
pub mod Gathering
pub mod Outcome
