-- `Request` has the theorem; the files before it what it needs, from the lines up.
pub mod Lines
pub mod Stamps
pub mod Alone
pub mod Both
pub mod Shares
pub mod Steps
pub mod Rows
pub mod Refusals
pub mod Columns
pub mod Left
pub mod Reread
pub mod Judged
pub mod Request
