pub mod Regions
pub mod RowParts
pub mod LaidOut
