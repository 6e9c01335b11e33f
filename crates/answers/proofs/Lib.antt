pub mod Checks
pub mod Tells
pub mod Settled
