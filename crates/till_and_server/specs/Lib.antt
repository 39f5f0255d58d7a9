pub mod Streams
pub mod ServedLives
pub mod Lives
pub mod Isolation
pub mod Laws
