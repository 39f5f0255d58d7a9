pub mod RouteLemmas
pub mod BodyLemmas
pub mod MomentLemmas
pub mod PartLemmas
pub mod WordLemmas
pub mod FoundLemmas
pub mod SizeLemmas
