-- Whole messages: a head and what stands behind it (CORBA 3.3 Part 2, 9.4).
pub mod Outcome
pub mod Body
pub mod Alone
pub mod LocateReply
pub mod Request
pub mod RequestAnswer
pub mod Reply
pub mod Laws
