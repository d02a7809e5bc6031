-- "1 to 4".
pub mod Clearance
