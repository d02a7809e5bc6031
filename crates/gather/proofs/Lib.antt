-- The laws of what is said, and what they lean on in the merging.
pub mod Lent
pub mod Program
