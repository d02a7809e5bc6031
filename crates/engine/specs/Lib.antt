-- What the engine of the clock condition promises, and what its own functions tell each other.
pub mod Promise
pub mod Inner
