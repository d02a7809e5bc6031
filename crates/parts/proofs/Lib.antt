pub mod OneOf
pub mod Statistics
pub mod Outcome
