pub mod IncomingLemmas
pub mod TraceLemmas
pub mod OrderLemmas
pub mod TracedLemmas
