-- The laws of what like records come to and of what is kept of them; of one pair, of a line's pairs and of the records; and that one answer is
-- left.
pub mod Signs
pub mod Keys
pub mod Since
pub mod Totals
pub mod Tallied
pub mod Tells
pub mod Sums
pub mod Signed
pub mod Compared
pub mod Pairs
pub mod Beyond
pub mod Comparing
pub mod Outcome
