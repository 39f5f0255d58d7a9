pub mod Rules
pub mod Given
