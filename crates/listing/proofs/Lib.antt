pub mod Laying
pub mod Senders
pub mod Concluding
pub mod Outcome
