pub mod Feeding
pub mod Reopening
