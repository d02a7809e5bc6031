-- `Filling`, `Stored` and `Last` are what the functions' proofs cite; `Outcomes`, `Closed` and `Same` what a caller does.
pub mod Filling
pub mod Stored
pub mod Last
pub mod Outcomes
pub mod Closed
pub mod Same
pub mod Gaps
