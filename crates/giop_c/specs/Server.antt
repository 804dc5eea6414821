-- A server's end: what its calls do to what its handle holds.
pub mod Answers
pub mod Ends
pub mod Entries
