pub mod FormLemmas
pub mod FoundLemmas
