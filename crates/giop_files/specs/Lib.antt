pub mod Files
pub mod InterfaceText
pub mod Places
pub mod Report
