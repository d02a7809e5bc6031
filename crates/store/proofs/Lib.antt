-- What other crates stand on is in `Laws`, in `Listed` the laws of paper's `listed`, in `Widths` a place's width. `Back` is one record written and read;
-- `Places` is for the functions that read, `Made` for those that write.
pub mod Listed
pub mod Places
pub mod Made
pub mod Back
pub mod Laws
pub mod Outcome
pub mod Peers
pub mod Widths
