pub mod Added
pub mod Found
