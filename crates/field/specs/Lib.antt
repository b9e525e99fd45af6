pub mod Sizes
pub mod Padding
pub mod Field
pub mod Table
pub mod Encode
pub mod Coded
