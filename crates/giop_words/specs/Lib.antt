pub mod Inputs
pub mod Key
pub mod Task
pub mod Timeout
