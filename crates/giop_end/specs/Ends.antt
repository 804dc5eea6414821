-- What is seen of an end: as it is made, as it runs, and what stays of it; and its faults.
pub mod Begun
pub mod Detached
pub mod SessionFaults
pub mod View
