pub mod ShallowLemmas
pub mod FirstLemmas
pub mod FoundLemmas
