pub mod Words
pub mod Checking
