pub mod Scan
pub mod Resume
