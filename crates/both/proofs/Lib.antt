-- The laws of a trace read by itself, and of both.
pub mod Alone
