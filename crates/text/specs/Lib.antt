-- What a text of latencies means.
pub mod Text
pub mod Held
