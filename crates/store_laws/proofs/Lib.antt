pub mod Steps
pub mod Lists
mod Readings
