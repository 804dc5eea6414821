-- What the laws of the lane of one id rest on.
pub mod CodingLemmas
pub mod LaneAtEndsLemmas
pub mod OnTheWayLemmas
pub mod OwnRunLemmas
pub mod LaneEventLemmas
pub mod NextHeard
pub mod HearsNext
pub mod ServerSteps
pub mod ServerHearsNext
pub mod ClientSteps
pub mod ClientHearsNext
pub mod LaneActLemmas
