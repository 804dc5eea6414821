-- What the agreement of two ends rests on.
pub mod WorldLemmas
pub mod OwnMessages
pub mod SentMessages
pub mod WorldTracks
pub mod Acted
pub mod ClientActing
pub mod ServerActing
pub mod Feeds
pub mod Arriving
pub mod AgreementLemmas
