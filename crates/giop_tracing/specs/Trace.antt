-- What `trace` does (CORBA 3.3 Part 2, 9.4).
pub mod Calls
pub mod Incoming
pub mod Json
pub mod Lines
pub mod Loops
pub mod Order
pub mod Outcome
pub mod Text
