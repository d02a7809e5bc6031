-- What a line of named arguments asks for; then what the parts of the code leave.
pub mod Plan
pub mod Spans
pub mod Parts
