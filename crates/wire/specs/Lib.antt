pub mod Identifier
pub mod Header
pub mod Line
pub mod StuffBits
pub mod Answers
