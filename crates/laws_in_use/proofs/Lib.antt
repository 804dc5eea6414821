mod Taking
mod LocatingMessages
mod LocatingReads
mod LocatingRuns
mod LocatingSpelled
mod LocatingHolds
