pub mod Stores
pub mod Puts
pub mod Outcomes
