pub mod NumberLemmas
pub mod OfficeIsSimple
pub mod WorkedLines
