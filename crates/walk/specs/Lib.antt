-- The walk along the steps.
pub mod Way
