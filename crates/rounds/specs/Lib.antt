-- What the answer to the clock condition means, how two traces' waits compare, and why a record moved.
pub mod Meaning
pub mod Compare
pub mod Chain
