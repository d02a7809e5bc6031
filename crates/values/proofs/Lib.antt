-- The laws of the data.
pub mod Values
pub mod Paired
pub mod Either
pub mod Outcome
pub mod Exits
