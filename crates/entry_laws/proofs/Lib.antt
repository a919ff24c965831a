mod Asking
pub mod Shapes
mod Sets
pub mod Entries
pub mod Rising
