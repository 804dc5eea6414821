pub mod TotalLemmas
pub mod RunLemmas
mod CountLemmas
mod MadeLemmas
mod WrittenLemmas
mod LaidLemmas
mod ChunkLemmas
mod FillLemmas
mod PlacedLemmas
mod HeldLemmas
mod GrowLemmas
mod BeginLemmas
mod TableLemmas
