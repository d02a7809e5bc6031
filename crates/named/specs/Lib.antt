-- The words of a line of named arguments, the names among them and the forms of their values; then what the parts of the code leave.
pub mod Words
pub mod Values
pub mod Parts
