-- What the headline rests on.
pub mod ItemLemmas
pub mod CutItemLemmas
pub mod WrittenItemLemmas
pub mod ServerItemLemmas
pub mod ClientItemLemmas
pub mod AnswerLemmas
pub mod HeldLemmas
pub mod SeriesLemmas
pub mod ServerHeldLemmas
pub mod ClientHeldLemmas
