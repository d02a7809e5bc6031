-- What the text of a trace's messages is.
pub mod Deliveries
