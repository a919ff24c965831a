pub mod Bytes
pub mod Exact
pub mod Fault
pub mod Judged
pub mod Several
