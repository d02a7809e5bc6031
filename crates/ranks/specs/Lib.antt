-- `Ranked` is what a caller gets; `Inner` is for the functions below.
pub mod Ranked
pub mod Inner
