-- The laws of the text of a chain.
pub mod Causes
pub mod Going
pub mod Reasons
