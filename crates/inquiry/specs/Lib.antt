-- What the programs say, from their arguments on.
pub mod Arguments
pub mod Program
