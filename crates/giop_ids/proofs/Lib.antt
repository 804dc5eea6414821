pub mod Puts
pub mod Lengths
pub mod SlotLemmas
pub mod RunLemmas
pub mod Sums
