-- What the program says, and what the merging leaves for it.
pub mod Program
pub mod Joined
