pub mod Items
pub mod Message
pub mod Input
pub mod Shown
pub mod Text
