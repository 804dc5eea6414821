-- What `call`, `locate` and `ping` do, and what stands in their files.
pub mod Calling
pub mod Endings
pub mod Feeding
pub mod Following
pub mod LocateFollowing
pub mod Locating
pub mod Printed
pub mod Streaming
