-- The laws of a line of named arguments: what is given with a pair, and what at the line's end.
pub mod Pairs
pub mod Ends
pub mod Sound
pub mod Samples
pub mod Outcome
