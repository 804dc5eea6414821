pub mod Orders
pub mod Loops
pub mod NameLemmas
pub mod OldLemmas
