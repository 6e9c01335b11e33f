pub mod Growing
pub mod Renewed
