pub mod Tasks
pub mod Printed
pub mod Replays
pub mod Commands
pub mod Program
