pub mod Claim
pub mod Merges
pub mod Lists
