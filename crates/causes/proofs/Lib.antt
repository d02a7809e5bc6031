-- `Request` has the theorem; the files before it what it needs: the chain, then the messages, then the calls.
pub mod Held
pub mod Along
pub mod Best
pub mod Finds
pub mod Chains
pub mod Agree
pub mod Received
pub mod Messages
pub mod Judged
pub mod Fills
pub mod MessageCall
pub mod ChainCall
pub mod Request
