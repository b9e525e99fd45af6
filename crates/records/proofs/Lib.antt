pub mod KindBytes
pub mod Records
pub mod Linked
