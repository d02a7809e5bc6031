pub mod Fitting
pub mod Outcome
