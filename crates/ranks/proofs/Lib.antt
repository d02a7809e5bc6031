-- `Spreading` is what is kept while the steps are gone back, `Sowing` how that begins, `Turns` a turn and the end.
pub mod Known
pub mod Spreading
pub mod Turns
pub mod Sowing
pub mod Inverse
pub mod Fits
pub mod Counts
pub mod Outcome
