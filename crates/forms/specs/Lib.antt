-- What the contracts of the crates above say beyond the forms of document 01, and what their theory says.
pub mod Sizes
pub mod Free
