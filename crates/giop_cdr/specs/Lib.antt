pub mod Reading
pub mod Spelling
pub mod Writing
pub mod RoundTrip
pub mod Encapsulation
pub mod Layout
pub mod Ending
pub mod Faults
