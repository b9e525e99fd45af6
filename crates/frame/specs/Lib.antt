pub mod Header
pub mod Parts
pub mod Fours
pub mod Sent
pub mod Writing
pub mod Framing
