pub mod LastSegment
pub mod Passing
