pub mod CheckLemmas
pub mod OnSession
