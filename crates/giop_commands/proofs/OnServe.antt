-- What `serve` rests on.
pub mod FitLemmas
pub mod InTurnLemmas
pub mod ObjectLemmas
pub mod ServingLemmas
pub mod StreamingLemmas
