-- Where timestamps stand.
pub mod Stamps
