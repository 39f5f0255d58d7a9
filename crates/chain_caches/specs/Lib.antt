pub mod Films
pub mod Callers
