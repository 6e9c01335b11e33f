pub mod Sending
pub mod Walking
pub mod Emitting
pub mod Packing
