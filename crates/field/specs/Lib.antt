-- What a cursor means.
pub mod Cursor
