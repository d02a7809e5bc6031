-- What the program says.
pub mod Program
