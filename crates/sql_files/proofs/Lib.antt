pub mod Keeping
pub mod Found
