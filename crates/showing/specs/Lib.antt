-- What is shown of a trace; and what the functions below have in hand.
pub mod Chained
pub mod Shown
pub mod Inner
