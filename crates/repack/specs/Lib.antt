pub mod Packing
pub mod Filling
