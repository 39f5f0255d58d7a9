pub mod Books
pub mod Tasks
