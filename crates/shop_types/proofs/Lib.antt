pub mod Common
pub mod ReplyLemmas
pub mod AsciiTexts
pub mod CalendarLemmas
pub mod MomentLemmas
pub mod NumberLemmas
