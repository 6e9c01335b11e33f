pub mod Heads
pub mod EntrySteps
