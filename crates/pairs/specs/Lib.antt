pub mod Passes
pub mod Spellings
