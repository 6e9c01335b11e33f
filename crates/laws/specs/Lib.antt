-- What holds of the definitions in `meaning`. `docs/MEANING.md` says where each law is proved.
pub mod Demands
pub mod Paragraph
pub mod Laws
pub mod PieceLaws
pub mod ColumnLaws
pub mod RankLaws
pub mod RewriteLaws
-- for contracts between the crates
pub mod Ahead
pub mod Pivot
