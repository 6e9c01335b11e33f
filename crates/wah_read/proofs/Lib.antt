pub mod Passing
pub mod WordBits
pub mod LastWord
pub mod Locating
