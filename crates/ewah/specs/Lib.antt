pub mod Markers
pub mod Checking
pub mod Cursors
pub mod Taken
