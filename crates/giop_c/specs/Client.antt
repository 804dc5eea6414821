-- A client's end: what its calls do to what its handle holds.
pub mod Asking
pub mod Ends
pub mod Entries
