-- `Steps` joins the walk to the definition, `Tables` and `Single` the code's tables to it; `Called`, `Explained` and `Concluding` are what the functions'
-- proofs cite; `Request` is for a caller.
pub mod Steps
pub mod Tables
pub mod Single
pub mod Called
pub mod Explained
pub mod Concluding
pub mod Request
