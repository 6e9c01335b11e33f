pub mod Refining
pub mod Counting
pub mod Placing
