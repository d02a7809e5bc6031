-- `Places` is what the public call comes to; `Chains` is for the contracts of the functions below it.
pub mod Places
pub mod Chains
