-- What a program knows of a file, and what it says by that.
pub mod File
pub mod Told
