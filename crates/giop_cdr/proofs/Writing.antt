-- What the writers' answers rest on.
pub mod WrittenNumbers
pub mod RoundTripLemmas
pub mod WriterLemmas
pub mod LongsWritten
