-- What `serve` does, and what stands in its files.
pub mod AnswerFiles
pub mod AnswerForms
pub mod Answering
pub mod Endings
pub mod GeneralForms
pub mod InTurn
pub mod IsA
pub mod LetOut
pub mod Objects
pub mod Printed
pub mod Serving
pub mod Streaming
