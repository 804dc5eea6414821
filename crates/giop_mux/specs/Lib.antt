pub mod Calls
pub mod Slots
pub mod Runs
pub mod Faults
