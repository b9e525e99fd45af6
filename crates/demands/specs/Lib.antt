pub mod Settled
pub mod Cases
pub mod Ends
pub mod Runs
