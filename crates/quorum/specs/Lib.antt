pub mod Sets
pub mod Tally
