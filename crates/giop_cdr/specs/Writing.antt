-- Writing: the output, what each call appends, and what it leaves (CORBA 3.3 Part 2, 9.3).
pub mod Output
pub mod Outcome
