pub mod Rehearsal
pub mod Laws
pub mod Reading
