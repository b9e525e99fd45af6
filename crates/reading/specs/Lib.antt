pub mod Form
pub mod Scan
