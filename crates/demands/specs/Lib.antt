-- The demands, one file to each, in their order, and behind them what the ninth change request says of the share. The files before them have the
-- words in which they are said.
pub mod Parts
pub mod Steps
pub mod Before
pub mod Levels
pub mod Statistics
pub mod Rows
pub mod Table
pub mod Records
pub mod Accepted
pub mod Switched
pub mod Demand1
pub mod Demand2
pub mod Demand3
pub mod Shares
