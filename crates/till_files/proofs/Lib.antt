pub mod Deciding
pub mod Results
pub mod Keeping
pub mod Found
pub mod Making
pub mod Played
pub mod Filled
