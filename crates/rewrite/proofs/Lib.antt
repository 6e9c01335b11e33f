pub mod Compressing
