pub mod Places
pub mod Report
