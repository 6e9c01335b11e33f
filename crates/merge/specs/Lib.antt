pub mod Operations
pub mod Parts
pub mod Merges
