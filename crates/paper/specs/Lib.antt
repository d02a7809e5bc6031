-- Document 01 as definitions, with the change requests, a file to each part. `Answer` is the whole, from a call's inputs to its outcome;
-- those before it stand in the order in which that reads them. `Merging` is the call that merges; `Filling`, `Messages` and `Chain` are the
-- two that fill a list.
pub mod Text
pub mod Tests
pub mod Numbers
pub mod Forms
pub mod Events
pub mod Line
pub mod Columns
pub mod Reading
pub mod Levels
pub mod Gaps
pub mod Matching
pub mod Statistics
pub mod Clock
pub mod Written
pub mod Answer
pub mod Merging
pub mod Filling
pub mod Messages
pub mod Chain
