-- The laws of the text of all messages.
pub mod Lines
pub mod Going
pub mod Deliveries
