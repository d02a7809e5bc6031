-- What a call leaves.
pub mod Promise
