-- The laws of texts put into a room, and of numbers shown.
pub mod Puts
pub mod Numbers
pub mod Outcome
pub mod Samples
