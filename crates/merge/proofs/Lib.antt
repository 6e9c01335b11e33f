pub mod Evaluating
pub mod Stretched
pub mod Along
pub mod Merging
