pub mod ById
pub mod Runs
pub mod Slots
