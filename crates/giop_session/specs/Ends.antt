-- What is seen of an end that runs, and what stays of it.
pub mod Detached
pub mod View
