pub mod Outcome
pub mod Fillings
