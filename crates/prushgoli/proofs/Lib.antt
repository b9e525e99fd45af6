pub mod Packed
pub mod Fits
pub mod Examples
pub mod Linked
