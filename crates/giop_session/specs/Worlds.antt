-- A client's end and a server's end that hear one another, and the lane of each id between them.
pub mod Agreement
pub mod Coding
pub mod LaneAtEnds
pub mod OnTheWay
pub mod OwnLane
pub mod Reading
pub mod Tracks
pub mod World
