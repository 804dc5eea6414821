-- What the table of calls rests on.
pub mod TableLemmas
pub mod UnsentLemmas
pub mod CutLemmas
