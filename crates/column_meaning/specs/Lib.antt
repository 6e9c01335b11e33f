-- What a reader must believe of columns. `docs/MEANING.md` says where each sentence of the papers is.
pub mod Column
pub mod Ranking
pub mod Columns
pub mod ColumnReadings
