pub mod Sending
pub mod Walking
pub mod Packing
