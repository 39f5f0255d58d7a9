pub mod Shown
pub mod Pages
pub mod Films
pub mod Payments
pub mod Sales
pub mod Actors
pub mod CategorySums
pub mod Overdue
