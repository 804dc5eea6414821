pub mod DumpLemmas
pub mod JoiningLemmas
