-- `Request` is the whole, sentence by sentence; the files before it have the words in which it is said.
pub mod Back
pub mod Choice
pub mod Calls
pub mod Table
pub mod Listed
pub mod Request
