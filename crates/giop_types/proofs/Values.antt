-- Views, leaves, and values that fit.
pub mod ViewLemmas
pub mod LeavesLemmas
pub mod FitLemmas
pub mod SameLemmas
pub mod LeafViews
