pub mod Tills
pub mod Outcomes
pub mod Numbered
pub mod Laws
pub mod Settled
pub mod Register
pub mod RegisterLaws
