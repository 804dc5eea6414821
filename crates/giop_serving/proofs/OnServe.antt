-- What `serve` rests on.
pub mod FitLemmas
pub mod FoundLemmas
pub mod InTurnLemmas
pub mod ObjectLemmas
pub mod PrintedLemmas
pub mod ServingLemmas
pub mod StreamingLemmas
