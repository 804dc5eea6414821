pub mod JudgedLemmas
mod SlotLemmas
pub mod RunLemmas
