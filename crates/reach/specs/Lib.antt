-- `Reach` is what the public call comes to; `Lines` is for the contracts of the functions below it.
pub mod Reach
pub mod Lines
