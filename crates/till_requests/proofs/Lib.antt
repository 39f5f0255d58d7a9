pub mod CivilLemmas
pub mod Joining
pub mod MarkLemmas
pub mod WordLemmas
pub mod SheetLemmas
