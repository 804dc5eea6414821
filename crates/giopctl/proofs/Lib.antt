pub mod DumpLemmas
pub mod OctetsLemmas
pub mod PiecesLemmas
pub mod ConvertLemmas
pub mod BodiesLemmas
pub mod CheckLemmas
pub mod SessionsLemmas
