pub mod Rows
pub mod Page
