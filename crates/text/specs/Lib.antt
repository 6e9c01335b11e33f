pub mod Lines
pub mod Standings
pub mod Listings
