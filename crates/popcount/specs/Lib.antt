pub mod Counts
pub mod Weights
