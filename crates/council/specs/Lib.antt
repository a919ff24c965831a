pub mod Quorum
pub mod Log
pub mod Rules
pub mod Promises
