-- What is said of two files, by what the system told of them.
pub mod Decided
