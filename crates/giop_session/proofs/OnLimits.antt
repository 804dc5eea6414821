-- What the laws of limits in any order rest on.
pub mod LimitLemmas
pub mod FewLemmas
pub mod ServerLimitLemmas
pub mod ClientLimitLemmas
pub mod RunLimitLemmas
pub mod ServerRunLimitLemmas
pub mod ClientRunLimitLemmas
