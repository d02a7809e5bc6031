-- `Call` is what the public calls come to; `Weave` is for the contracts of the functions below them.
pub mod Call
pub mod Weave
