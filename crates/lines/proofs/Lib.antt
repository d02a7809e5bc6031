-- The laws of what is put into a line, of the records that lines tell of, of lines added one behind the other, and that each statement leaves one answer.
pub mod Pieces
pub mod Records
pub mod Adding
pub mod Outcome
