-- Encapsulations (CORBA 3.3 Part 2, 9.3.3).
pub mod Opened
pub mod OfLayout
