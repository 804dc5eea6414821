pub mod Answers
pub mod Calls
pub mod EndRecords
pub mod Ends
pub mod Heads
pub mod Interfaces
pub mod Records
pub mod Values
