pub mod Concluding
pub mod Demands
