pub mod AllReadings
pub mod AllCorners
