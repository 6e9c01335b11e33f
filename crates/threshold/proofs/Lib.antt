pub mod Bytes
pub mod Starting
pub mod Cases
pub mod Reading
pub mod Writing
pub mod Whole
