pub mod Sorting
pub mod Quick
