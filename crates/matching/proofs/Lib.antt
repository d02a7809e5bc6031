-- `Count`, `Places`, `Into`, `Keys` and `Last` are the tools; each other file is one thing that the paper says, or that follows from it.
pub mod Count
pub mod Places
pub mod Into
pub mod Keys
pub mod Last
pub mod Belong
pub mod Calls
pub mod Own
pub mod Counts
pub mod Before
pub mod EachLast
pub mod FirstLines
pub mod Times
pub mod Levels
