pub mod Made
pub mod Deciding
pub mod Opening
pub mod NewFiles
pub mod Migrated
pub mod FirstRow
pub mod OldFiles
pub mod Opened
