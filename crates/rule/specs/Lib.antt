-- What a line of a text of latencies means.
pub mod Words
pub mod Rule
pub mod Cursor
