pub mod Naturals
pub mod Codes
