pub mod Places
pub mod Among
pub mod Words
pub mod Lists
pub mod Symbols
pub mod ShortList
pub mod Linked
