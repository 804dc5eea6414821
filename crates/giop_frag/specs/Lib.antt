pub mod Gathered
pub mod Faults
pub mod Blocks
pub mod Chunks
pub mod Placed
pub mod Runs
