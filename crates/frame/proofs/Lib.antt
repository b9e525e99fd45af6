pub mod FourBits
pub mod Quiet
pub mod Written
pub mod FrameParts
pub mod Linked
