pub mod KnownBytes
mod Runs
pub mod Serving
pub mod Following
mod AnswerLemmas
mod Sent
pub mod Turns
pub mod Together
