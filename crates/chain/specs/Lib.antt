-- `Call` is for the contracts; `Linked` ties tables of steps to the definition's.
pub mod Linked
pub mod Call
