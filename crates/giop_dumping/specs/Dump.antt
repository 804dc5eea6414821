-- What `dump` does (CORBA 3.3 Part 2, 9.4).
pub mod Bodies
pub mod Heads
pub mod Joining
pub mod Text
