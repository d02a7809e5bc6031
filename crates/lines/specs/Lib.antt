-- What the lines are; a record as they tell of it; and lines added one behind the other.
pub mod Parts
pub mod Lines
pub mod Records
pub mod Adding
