pub mod Read
pub mod Going
