-- What an end's own acts rest on.
pub mod ActedLemmas
pub mod CutLemmas
pub mod LastLemmas
pub mod LocalLemmas
pub mod LocatedLemmas
pub mod QuietLemmas
