pub mod Balance
pub mod Rewards
