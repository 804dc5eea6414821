-- What holds of a run of either side, and what it keeps apart.
pub mod KeptApart
pub mod ServerRunIs
pub mod ClientRunIs
