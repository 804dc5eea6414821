-- What hearing a message rests on.
pub mod ReadsLemmas
pub mod ClientCancelLemmas
pub mod ClientReplyLemmas
