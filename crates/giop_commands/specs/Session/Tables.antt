-- What is told of the calls of an end.
pub mod Bodies
pub mod Shown
pub mod Table
