pub mod Values
pub mod Coding
pub mod Descriptions
