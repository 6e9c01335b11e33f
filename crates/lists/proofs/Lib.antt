pub mod Choosing
mod Large
