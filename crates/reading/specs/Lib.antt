pub mod Retimed
pub mod Joined
pub mod Tidy
pub mod Starts
pub mod Places
pub mod Rests
pub mod Mixed
