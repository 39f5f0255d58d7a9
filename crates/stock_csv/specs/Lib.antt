pub mod Rows
pub mod Stock
pub mod Progress
pub mod Fault
