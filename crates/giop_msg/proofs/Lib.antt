pub mod FaultLemmas
pub mod HeaderLemmas
pub mod StreamLemmas
pub mod FramerLemmas
pub mod SplitLemmas
pub mod ReadPiecesLemmas
pub mod JoinedLemmas
pub mod TableLemmas
pub mod BackLemmas
pub mod CutLemmas
pub mod MeaningLemmas
pub mod TargetLemmas
pub mod RequestHeadLemmas
pub mod ReplyHeadLemmas
pub mod LocateLemmas
pub mod RequestIdLemmas
pub mod WholeMessages
mod StandardFacts
