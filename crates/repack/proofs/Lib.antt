pub mod Joining
pub mod PlainSegments
pub mod RowsPut
pub mod RowsWritten
