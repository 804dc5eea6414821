-- What `call` and `serve` have in common: turns, acts, tables, targets and what is printed.
pub mod Acts
pub mod Endings
pub mod Faults
pub mod Forms
pub mod Printed
pub mod Steps
pub mod StreamLines
pub mod Streaming
pub mod Tables
pub mod Target
pub mod Traffic
pub mod Turns
