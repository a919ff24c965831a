pub mod Message
pub mod Loading
pub mod Letter
