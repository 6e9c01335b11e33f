pub mod WahDrafts
