pub mod Over
pub mod Exacts
pub mod Turns
pub mod Runs
pub mod Joined
