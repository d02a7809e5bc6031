-- The definitions that the contracts of this crate cite.
pub mod Patched
pub mod Outcome
pub mod Inner
