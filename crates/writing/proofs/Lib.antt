-- The laws behind the contracts, and those of the written trace.
pub mod Patches
pub mod Moved
pub mod Puts
pub mod Going
pub mod Sums
pub mod Filling
pub mod Outcomes
pub mod Faithful
