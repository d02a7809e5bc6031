-- The theorems on the clock condition, a file to each, from the numbers up.
pub mod Order
pub mod Gaps
pub mod Counting
pub mod Next
pub mod Rounds
pub mod Cause
pub mod Bound
pub mod Lists
pub mod Agree
pub mod Stops
pub mod Meaning
pub mod Latency
pub mod Prefix
pub mod Still
pub mod Chain
pub mod Rings
