pub mod SumLemmas
pub mod MonthLemmas
