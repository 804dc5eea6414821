pub mod Check
pub mod Session
