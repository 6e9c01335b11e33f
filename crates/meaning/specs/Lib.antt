-- What a reader must believe, in paper 01's order. `docs/MEANING.md` says where each of its sentences is.
pub mod Limits
pub mod Rows
pub mod Segment
pub mod Refusal
pub mod Piece
pub mod Ewah
pub mod Canonical
pub mod Wah
pub mod Format
pub mod Extent
pub mod Index
pub mod Question
pub mod Answer
pub mod NewIndex
pub mod Rewriting
pub mod Readings
