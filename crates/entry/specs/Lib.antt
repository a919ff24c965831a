pub mod Members
pub mod Entry
pub mod Listing
