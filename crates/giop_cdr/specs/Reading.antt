-- Reading: the cursor, what each call answers, and what it means that it answers exactly what
-- octets spell (CORBA 3.3 Part 2, 9.3).
pub mod Cursor
pub mod Values
pub mod Outcome
pub mod Exactness
pub mod View
