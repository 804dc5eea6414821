-- What whole messages rest on.
pub mod OutcomeLemmas
pub mod BodyLemmas
pub mod AloneLemmas
pub mod ParameterLoops
pub mod LocateReplyLemmas
pub mod RequestLemmas
pub mod ReplyLemmas
pub mod ReplyWritingLemmas
pub mod HeldLemmas
pub mod LawLemmas
pub mod ObjectLemmas
mod StandardReplies
