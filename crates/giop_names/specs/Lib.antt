pub mod Scopes
pub mod Plain
pub mod Beside
pub mod Interface
pub mod Old
