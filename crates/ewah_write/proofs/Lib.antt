pub mod Growing
pub mod Pushing
pub mod WordByWord
