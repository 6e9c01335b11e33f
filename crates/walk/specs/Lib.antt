pub mod Queries
pub mod Surveys
