pub mod Buffers
pub mod PlainWords
