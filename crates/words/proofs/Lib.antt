pub mod BitLaws
pub mod Tests
pub mod Entries
pub mod Adders
pub mod Segmented
