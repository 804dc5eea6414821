pub mod Parts
pub mod Alone
pub mod First
pub mod Steps
pub mod Shallow
