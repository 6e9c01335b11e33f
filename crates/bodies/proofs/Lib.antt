pub mod Loading
pub mod Advancing
pub mod Spans
