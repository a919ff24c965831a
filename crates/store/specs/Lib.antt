pub mod Ask
pub mod Refusal
pub mod Store
pub mod Tables
