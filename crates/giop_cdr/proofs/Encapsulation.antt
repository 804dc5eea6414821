-- Encapsulations, opened and closed.
pub mod OpenLemmas
pub mod EncapsulationLemmas
pub mod EncapsulatedLemmas
