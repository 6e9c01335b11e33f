pub mod AllColumns
