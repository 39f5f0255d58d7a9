pub mod Readings
pub mod Outs
pub mod Parcels
pub mod Among
