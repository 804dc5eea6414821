pub mod AloneLemmas
pub mod ContinuedLemmas
pub mod OnewayLemmas
pub mod StrayLemmas
pub mod TableLemmas
pub mod UsualLemmas
