pub mod Failing
pub mod Results
pub mod Resuming
pub mod Wells
