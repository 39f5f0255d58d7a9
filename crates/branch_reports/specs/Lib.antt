pub mod Told
pub mod Looked
pub mod Rewards
