-- What the ending of a call leaves.
pub mod Ending
