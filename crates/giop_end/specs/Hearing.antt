-- What a message of the peer does at an end (CORBA 3.3 Part 2, 9.4).
pub mod ClientHears
pub mod Decoding
pub mod Feeding
pub mod Heard
pub mod Joining
pub mod Pieces
pub mod ServerHears
