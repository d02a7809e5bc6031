-- Laws of the words themselves.
pub mod Refusals
