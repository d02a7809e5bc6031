-- How a line of named arguments is complained of; then what the parts of the code leave.
pub mod Complaint
pub mod Parts
