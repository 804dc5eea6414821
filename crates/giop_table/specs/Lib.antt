pub mod Unsent
pub mod Sending
pub mod CallTable
pub mod Codes
