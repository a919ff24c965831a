pub mod World
pub mod Laws
pub mod Shown
