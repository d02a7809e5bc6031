-- Where the record of a line is.
pub mod Place
