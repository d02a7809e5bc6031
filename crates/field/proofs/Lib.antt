-- The laws of a cursor, and of a field that is one text.
pub mod Cursors
pub mod Counts
pub mod Texts
pub mod Outcome
