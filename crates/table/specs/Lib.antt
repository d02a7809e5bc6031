-- What a table file means.
pub mod Table
