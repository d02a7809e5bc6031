-- What the places of the last records and marks say.
pub mod Seen
