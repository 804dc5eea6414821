-- What a call of a reader says by its result: by cases, so that a contract is one word.
--
-- word      | its value            | memory      | a refusal leaves the reader
-- Reads     | as reading gives it  | takes none  | where it was
-- ReadsAs   | seen by a view       | takes none  | where it was
-- Allocates | seen by a view       | may be out of it where nothing is refused | where it was
-- Passes    | none: it is skipped  | takes none  | where it was
-- Exactly   | as Reads             | takes none  | anywhere: a step within one of the above
-- Skips     | as Passes            | takes none  | anywhere
-- Follows   | as Allocates         | may be out of it, and then nothing else is known | anywhere
use Rattle.std.specs.Prelude.{◌≡◌, ◌⊎◌, Result, Ok, Err, IsOk}
use Rattle.giop_cdr.specs.declared.fault.CdrFault.{CdrFault}
use Rattle.giop_cdr.specs.declared.fault.CdrKind.TheVariants.{NoMemory}
use Rattle.giop_cdr.specs.Reading.Cursor.{Cursor}
use Rattle.giop_cdr.specs.Reading.Values.{Reading, past}

-- a call that takes no memory answers what reading gives, and leaves the cursor behind the value
-- or, where it refuses, where it was
abbrev pub Reads : {A : Type 0} → Cursor → Result A CdrFault → Cursor → Reading A → Type 0
Reads old (Ok x) new reading = reading ≡ Ok (x, new)
Reads old (Err e) new reading = (reading ≡ Err e) × (new ≡ old)

-- a call that takes no memory and whose value contracts see by a view answers what reading gives,
-- as Reads says
abbrev pub ReadsAs : {X A : Type 0} → (X → A) → Cursor → Result X CdrFault → Cursor → Reading A
    → Type 0
ReadsAs view old (Ok x) new reading = reading ≡ Ok (view x, new)
ReadsAs view old (Err e) new reading = (reading ≡ Err e) × (new ≡ old)

-- a call that takes memory answers what reading gives, as Reads says, or is out of memory where
-- nothing is refused; view is what contracts see of the value
abbrev pub Allocates : {X A : Type 0} → (X → A) → Cursor → Result X CdrFault → Cursor → Reading A
    → Type 0
Allocates view old (Ok x) new reading = reading ≡ Ok (view x, new)
Allocates view old (Err e) new reading =
    ((reading ≡ Err e) ⊎ ((e.kind ≡ NoMemory) × IsOk reading)) × (new ≡ old)

-- a call that passes over a value, without memory: the cursor behind it, or the fault
abbrev pub Passes : {X A : Type 0} → Cursor → Result X CdrFault → Cursor → Reading A → Type 0
Passes old (Ok _) new reading = past reading ≡ Ok new
Passes old (Err e) new reading = (reading ≡ Err e) × (new ≡ old)

-- as Passes, but for the cursor that a refusal leaves
abbrev pub Skips : {X A : Type 0} → Result X CdrFault → Cursor → Reading A → Type 0
Skips (Ok _) new reading = past reading ≡ Ok new
Skips (Err e) new reading = reading ≡ Err e

-- as Reads, but for the cursor that a refusal leaves
abbrev pub Exactly : {A : Type 0} → Result A CdrFault → Cursor → Reading A → Type 0
Exactly (Ok x) new reading = reading ≡ Ok (x, new)
Exactly (Err e) new reading = reading ≡ Err e

-- what a step of a longer reading says: out of memory, nothing else is known, since what follows
-- may still be refused
abbrev pub Follows : {X A : Type 0} → (X → A) → Result X CdrFault → Cursor → Reading A → Type 0
Follows view (Ok x) new reading = reading ≡ Ok (view x, new)
Follows view (Err e) new reading = (reading ≡ Err e) ⊎ (e.kind ≡ NoMemory)
