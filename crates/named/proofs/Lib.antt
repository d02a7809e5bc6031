-- The laws of the words of a line, of their names and of the values' forms.
pub mod Cuts
pub mod Forms
pub mod Samples
pub mod Outcome
