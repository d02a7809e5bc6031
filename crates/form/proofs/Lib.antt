-- A turn of a loop that reads digits, and that there is one answer.
pub mod Digits
pub mod Outcomes
