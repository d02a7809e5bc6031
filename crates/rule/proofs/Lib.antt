-- The laws of a line of latencies: its words, its three words, and what it can set.
pub mod Cuts
pub mod Threes
pub mod Low
pub mod Outcome
