pub mod Table
pub mod After
pub mod Among
