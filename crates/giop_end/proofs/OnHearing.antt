-- What hearing a message rests on.
pub mod ServerLemmas
pub mod FeedingLemmas
pub mod HeardLemmas
pub mod EventLemmas
pub mod PieceLemmas
