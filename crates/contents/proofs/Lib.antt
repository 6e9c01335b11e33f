pub mod Places
pub mod Stated
