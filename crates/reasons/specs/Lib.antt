-- What the text of a chain is.
pub mod Reasons
