pub mod Keep
pub mod Flows
pub mod Effects
pub mod Observing
pub mod Usual
