pub mod Words
pub mod Symbols
pub mod Lists
