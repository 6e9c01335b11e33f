pub mod Bits
pub mod Adding
pub mod Filling
pub mod Choosing
