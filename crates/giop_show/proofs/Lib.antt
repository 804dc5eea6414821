pub mod AppendsLemmas
pub mod RestLemmas
pub mod PiecesLemmas
pub mod BodiesLemmas
