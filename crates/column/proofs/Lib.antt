pub mod Lowering
pub mod Looking
pub mod Going
pub mod Columns
