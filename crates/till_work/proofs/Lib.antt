pub mod Saying
pub mod GoingOn
pub mod Exchanging
pub mod Stops
