-- `Means` is what a caller learns of a call that found its times; the files before it are for the proofs of the functions.
pub mod Settling
pub mod Comparing
pub mod Records
pub mod Fitting
pub mod Means
pub mod Outcome
