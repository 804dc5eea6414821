pub mod Meter
pub mod Faults
pub mod End
