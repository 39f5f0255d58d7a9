pub mod Parts
pub mod Seen
pub mod Listed
pub mod Parcels
pub mod Custody
