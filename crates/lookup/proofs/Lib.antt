-- The laws of the search.
pub mod Place
