-- The laws that the engine's proofs cite.
pub mod Tests
pub mod Waiting
pub mod Rising
pub mod Filling
pub mod Turning
pub mod Going
pub mod Stepping
pub mod Lengths
pub mod Outcome
