-- Descriptions: their shapes, which of them are checked, and their first fault.
pub mod Shape
pub mod Full
pub mod Checked
pub mod CheckedShape
pub mod Nodes
pub mod DescFaults
