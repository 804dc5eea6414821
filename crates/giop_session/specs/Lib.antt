pub mod Acts
pub mod Worlds
pub mod Runs
pub mod Calls
pub mod Items
pub use Rattle.giop_end.specs.Ends
pub use Rattle.giop_end.specs.Hearing
pub use Rattle.giop_end.specs.Pumping
