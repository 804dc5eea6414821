pub mod OnActs
pub mod OnHearing
mod PumpingLemmas
