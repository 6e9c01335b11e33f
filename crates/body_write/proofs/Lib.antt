pub mod OfEwah
pub mod OfWah
pub mod Bodies
pub mod Joined
pub mod Emitting
pub mod UpTo
