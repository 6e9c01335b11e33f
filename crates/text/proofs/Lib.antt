pub mod Decimals
pub mod Printed
pub mod Walking
pub mod Stepping
