pub mod AtLemmas
pub mod CorbalocLemmas
pub mod Crossing
pub mod EndsCrossing
pub mod HandleRows
pub mod IiopMemory
pub mod ValueLoops
pub mod ValuesFit
