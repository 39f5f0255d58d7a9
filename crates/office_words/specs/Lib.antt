pub mod CommandLine
pub mod Given
pub mod Acts
pub mod Line
pub mod Table
