-- What the readers' answers rest on.
pub mod RunLemmas
pub mod WindowLemmas
pub mod FieldLemmas
pub mod Answers
pub mod Stretches
pub mod CountSteps
pub mod ItemLoops
pub mod LongLemmas
pub mod ViewLemmas
