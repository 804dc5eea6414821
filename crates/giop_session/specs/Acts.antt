-- What an end's own program does, and what is put out for it (CORBA 3.3 Part 2, 9.4).
pub mod Acting
pub mod PutOut
pub use Rattle.giop_end.specs.Acts.ClientCalls
pub use Rattle.giop_end.specs.Acts.Form
pub use Rattle.giop_end.specs.Acts.InPieces
pub use Rattle.giop_end.specs.Acts.Putting
pub use Rattle.giop_end.specs.Acts.Refused
pub use Rattle.giop_end.specs.Acts.Sent
pub use Rattle.giop_end.specs.Acts.ServerAnswers
