pub mod FieldLemmas
pub mod HeadLemmas
pub mod StreamLemmas
pub mod HeadText
pub mod PhraseLemmas
pub mod WriteLemmas
