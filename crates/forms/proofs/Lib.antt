-- The laws of the forms, over plain lists and numbers, for the crates above.
pub mod Tests
pub mod Bounded
pub mod Machine
pub mod Runs
pub mod Signs
pub mod Wholes
pub mod Times
pub mod Shown
pub mod Foreign
pub mod Goods
pub mod Back
pub mod Ends
pub mod Texts
