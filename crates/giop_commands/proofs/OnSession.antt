-- What `call` and `serve` both rest on.
pub mod ActLemmas
pub mod AheadLemmas
pub mod FormLemmas
pub mod PartLemmas
pub mod StepLemmas
pub mod StreamingLemmas
pub mod TargetLemmas
pub mod ToldLemmas
pub mod TurnLemmas
