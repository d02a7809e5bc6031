-- The word in which what follows of the matching is said, here and in the demands.
pub mod Belongs
