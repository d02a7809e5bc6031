-- The laws of the complaint: how it is put, and that it is one line.
pub mod Shows
pub mod Lines
pub mod Samples
pub mod Outcome
