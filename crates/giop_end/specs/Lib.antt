pub mod Acts
pub mod Ends
pub mod Hearing
pub mod Pumping
