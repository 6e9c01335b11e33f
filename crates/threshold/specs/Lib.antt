pub mod Output
pub mod Begins
pub mod Readings
