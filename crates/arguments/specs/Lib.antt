-- What the arguments ask for.
pub mod Arguments
