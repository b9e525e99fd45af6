pub mod Table
pub mod After
pub mod Answers
pub mod Among
pub mod Given
pub mod Linked
