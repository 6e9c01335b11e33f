pub mod AllAppends
pub mod Following
pub mod Ordered
pub mod OneBatch
pub mod Appended
