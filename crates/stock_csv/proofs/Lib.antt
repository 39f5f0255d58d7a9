pub mod RowLemmas
pub mod CopiesLemmas
pub mod LimitLemmas
pub mod ReadingLemmas
