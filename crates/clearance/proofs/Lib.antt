-- The test of the latencies, what a call that passed or failed the checks comes to, and that one choice is heard.
pub mod Clearing
pub mod Outcome
