pub mod Digits
pub mod Blocks
