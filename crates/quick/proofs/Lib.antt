-- The laws of the quick readers.
pub mod Runs
pub mod Sums
pub mod Sizes
pub mod Signs
pub mod Stops
pub mod Moves
pub mod Opens
pub mod Takes
pub mod Paired
pub mod Outcome
