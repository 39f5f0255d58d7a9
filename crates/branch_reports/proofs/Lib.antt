pub mod Decisions
pub mod Given
pub mod RewardLemmas
pub mod MonthLemmas
pub mod Few
