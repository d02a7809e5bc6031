-- The laws of what is said of two files, and what they lean on in the judgement.
pub mod Room
pub mod Lent
pub mod Filed
