pub mod Dlc
pub mod Division
pub mod Linear
pub mod CrcFours
pub mod CrcExamples
pub mod Linked
