-- What an end comes to that is given many inputs, one after another.
pub mod Alone
pub mod ClientRuns
pub mod Driven
pub mod Events
pub mod Fits
pub mod Inputs
pub mod LeftToSend
pub mod Limits
pub mod Met
pub mod RunLimits
pub mod ServerRuns
pub mod SideRuns
