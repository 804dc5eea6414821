-- What an end's own program does, and what is put out for it (CORBA 3.3 Part 2, 9.4).
pub mod ClientCalls
pub mod Form
pub mod InPieces
pub mod Putting
pub mod Refused
pub mod Sent
pub mod ServerAnswers
