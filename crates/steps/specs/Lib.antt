pub mod Refusal
pub mod Same
pub mod Heads
pub mod Steps
pub mod Memory
pub mod Calls
