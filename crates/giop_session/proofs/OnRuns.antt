-- What runs of inputs rest on.
pub mod EventLemmas
pub mod InputLemmas
pub mod LeftLemmas
pub mod FollowedLemmas
pub mod HistoryLemmas
pub mod HeardAlone
pub mod ClientLeftLemmas
pub mod DrivenLemmas
pub mod AheadLemmas
pub mod AloneLemmas
pub mod PlannedLemmas
pub mod SeenLemmas
