pub mod Limits
pub mod Whole
