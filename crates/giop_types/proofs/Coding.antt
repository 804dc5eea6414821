-- What decoding and encoding rest on.
pub mod MemberLoops
pub mod AsExact
pub mod CountedExact
pub mod Takes
pub mod ShapeExact
pub mod DecodeLemmas
pub mod ListLoops
pub mod WrittenLemmas
pub mod PartLoops
pub mod EncodeLemmas
pub mod SpelledFits
pub mod AgainLemmas
pub mod WrittenOctets
pub mod AtOnceLemmas
pub mod CountedReads
