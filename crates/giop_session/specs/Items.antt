-- What is said of one call, in however many messages, and which events carry it.
pub mod Carries
pub mod ClientCarries
pub mod ServerCarries
