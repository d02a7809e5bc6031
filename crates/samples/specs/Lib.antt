pub mod Samples
pub mod Merges
pub mod Lists
