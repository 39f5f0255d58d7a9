pub mod Finds
pub mod Commands
pub mod Looks
