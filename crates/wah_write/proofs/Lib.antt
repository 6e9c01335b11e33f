pub mod Runs
pub mod Growing
pub mod Pushing
