pub mod Writers
pub mod Layouts
