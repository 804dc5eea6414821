pub mod Descriptions
pub mod Values
pub mod Coding
pub mod Objects
