pub mod Values
pub mod Segmented
pub mod Runs
pub mod Walks
