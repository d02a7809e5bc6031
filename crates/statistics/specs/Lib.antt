-- `Keys` is which records are like each other, `Totals` what some of them come to, and `Tallied` what is kept of those that were added; `Tells`
-- is one pair beside numbers; `Ready` is what the slices and the trace hold, and what is said of a record by its place.
pub mod Keys
pub mod Totals
pub mod Tallied
pub mod Tells
pub mod Ready
