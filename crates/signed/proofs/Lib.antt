pub mod Equal
pub mod Sizes
pub mod Codes
pub mod Halves
pub mod Outcome
