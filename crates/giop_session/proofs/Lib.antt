pub mod OnHearing
pub mod OnRuns
pub mod OnItems
pub mod OnLanes
pub mod OnActs
pub mod OnLimits
pub mod OnSides
pub mod OnWorlds
