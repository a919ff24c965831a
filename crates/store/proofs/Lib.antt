mod Idle
pub mod Whole
