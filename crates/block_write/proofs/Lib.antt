pub mod Joining
pub mod Rowing
