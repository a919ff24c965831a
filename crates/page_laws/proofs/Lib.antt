pub mod Forms
mod Tables
mod Stores
mod Reaching
pub mod Loading
pub mod Pages
