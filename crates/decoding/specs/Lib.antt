pub mod Parts
pub mod Decode
pub mod Number
pub mod Reading
