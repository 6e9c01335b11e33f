pub mod Scanned
pub mod Walking
pub mod Shortening
pub mod Ending
