-- What `call` and `locate` rest on.
pub mod FeedingLemmas
pub mod FollowingLemmas
pub mod LocateFollowingLemmas
pub mod LocatingLemmas
pub mod PrintedLemmas
pub mod StreamingLemmas
