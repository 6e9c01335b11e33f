pub mod Spelling
pub mod Blocks
pub mod Rows
pub mod Evenly
pub mod Passing
