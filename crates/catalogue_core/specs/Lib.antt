pub mod Shares
pub mod Decided
