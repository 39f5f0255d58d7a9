pub mod JoinLemmas
pub mod RowTexts
pub mod PageLemmas
pub mod TextLemmas
pub mod FieldLemmas
pub mod FilmLemmas
