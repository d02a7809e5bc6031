-- The laws of what is said in a room, of a chain, of what its records wait for, and of a trace.
pub mod Speaking
pub mod Telling
pub mod Causes
pub mod Concluding
