pub mod TableLemmas
pub mod UnsentLemmas
