pub mod Weighing
pub mod Places
