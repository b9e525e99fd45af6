pub mod Text
pub mod Report
pub mod Whole
pub mod Writing
