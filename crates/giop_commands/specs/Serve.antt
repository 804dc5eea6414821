-- What `serve` does, and what stands in its files.
pub mod AnswerFiles
pub mod AnswerForms
pub mod Answering
pub mod GeneralForms
pub mod InTurn
pub mod IsA
pub mod LetOut
pub mod Objects
pub mod Serving
pub mod Shown
pub mod StreamLines
pub mod Streaming
