-- The laws of the arguments.
pub mod Planning
