-- The laws of digits, signs and sizes that 64 bits hold.
pub mod Sizes
pub mod Naturals
pub mod Outcome
