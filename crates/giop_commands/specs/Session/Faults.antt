-- What is told of the fault that ended a session.
pub mod Broken
pub mod Json
pub mod Lines
