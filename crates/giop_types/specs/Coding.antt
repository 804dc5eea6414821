-- Values in CDR: what octets spell, what reading returns, and what is written (CORBA 3.3 Part 2,
-- 9.3).
pub mod Decoding
pub mod Spells
pub mod Refusals
pub mod Outcome
pub mod Written
pub mod Encoding
pub mod AtOnce
