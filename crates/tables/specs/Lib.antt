-- The program's own rules: what it says.
pub mod Program
