pub mod Migrations
pub mod Playing
pub mod Faults
pub mod Files
pub mod Openings
