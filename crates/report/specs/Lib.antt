-- What the report is.
pub mod Put
pub mod Report
pub mod Said
pub mod Told
pub mod Replied
