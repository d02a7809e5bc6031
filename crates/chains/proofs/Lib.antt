-- `Places` and `Outcomes` have what callers may cite; the others are laws over plain variables, which the proofs of the
-- functions cite.
pub mod Places
pub mod Outcomes
pub mod Walks
pub mod Search
pub mod Found
pub mod Chain
pub mod Place
