pub mod Delivering
pub mod Entering
pub mod Laws
pub mod Settling
pub mod Stops
pub mod Exchanged
pub mod Desk
