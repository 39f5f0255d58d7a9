pub mod Leaving
pub mod Failing
pub mod Laws
pub mod Resumes
