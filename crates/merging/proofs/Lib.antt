-- The laws of a step, of the whole weaving, and of the calls.
pub mod Steps
pub mod Weaving
pub mod Calls
pub mod Request
