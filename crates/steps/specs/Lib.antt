-- What the tables of a chain's steps hold.
pub mod Tables
