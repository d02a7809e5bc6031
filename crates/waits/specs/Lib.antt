-- What the tables hold that the engine of the clock condition takes.
pub mod Tables
