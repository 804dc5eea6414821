-- What an end's own acts, and what it puts out, rest on.
pub mod SentLemmas
pub mod IdLemmas
pub mod ActingLemmas
pub mod PutOutLemmas
pub mod SidesPutOut
pub mod WrittenLemmas
