-- What is said of two files.
pub mod Filed
pub mod Judged
