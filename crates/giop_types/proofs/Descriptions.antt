-- What the check of a description rests on.
pub mod NameLemmas
pub mod LabelLemmas
pub mod CheckLemmas
pub mod DoubledLemmas
pub mod SeenLemmas
pub mod NodeLemmas
