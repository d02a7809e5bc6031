-- The laws of two texts that are the same.
pub mod Same
