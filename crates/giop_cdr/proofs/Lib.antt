pub mod Reading
pub mod Spelling
pub mod Encapsulation
pub mod Writing
pub mod LayoutLemmas
pub mod EndingLemmas
