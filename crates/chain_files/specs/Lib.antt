pub mod Making
pub mod Faults
pub mod Migrations
pub mod Files
pub mod Openings
