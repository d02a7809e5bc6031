pub mod Going
pub mod Entries
pub mod Into
pub mod Outcome
