pub mod Sorts
pub mod Parts
pub mod Heres
pub mod Outcome
