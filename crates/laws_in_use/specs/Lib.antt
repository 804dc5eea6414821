pub mod Described
pub mod Doors
pub mod Exchange
pub mod Framed
pub mod Gathering
pub mod Locating
pub mod Referred
pub mod ServerCalls
