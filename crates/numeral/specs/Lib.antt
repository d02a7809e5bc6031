-- What a number of 64 bits is, written.
pub mod Numeral
