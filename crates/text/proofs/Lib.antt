-- The laws of a text of latencies: spans, lines, places, and the table.
pub mod Within
pub mod Rows
pub mod Turns
pub mod Opens
pub mod Whole
pub mod Fits
pub mod Outcome
