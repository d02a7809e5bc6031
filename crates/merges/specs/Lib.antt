-- `Request` is the whole, sentence by sentence; the files before it have the words in which it is said.
pub mod Parts
pub mod Table
pub mod Stamps
pub mod Trace
pub mod Request
