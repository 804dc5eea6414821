-- Values: their trees, which fit a description, and how many leaves they have.
pub mod Tree
pub mod Views
pub mod Leaves
pub mod Fits
pub mod TreeCode
pub mod Arriving
pub mod Same
pub mod SameLaws
