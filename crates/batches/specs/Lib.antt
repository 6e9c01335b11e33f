-- What a reader must believe of a writer that takes rows in batches, with its readings; and what holds of it.
pub mod Append
pub mod AppendReadings
pub mod AppendLaws
