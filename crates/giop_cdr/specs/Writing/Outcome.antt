-- What a call of a writer says by its result: by cases, so that a contract is one word.
use Rattle.std.specs.Prelude.{◌≡◌, List, ℕ, ◌++◌, Result, Ok, Err}
use Rattle.giop_cdr.specs.Writing.Output.{Output}

-- octets were appended, and none changed
pub record Grows (old new : Output) : Type 0 where
  pub part : List ℕ
  pub octets : new.octets ≡ old.octets ++ part

-- a call that writes a value leaves what is written of it, or, out of memory, what was there
abbrev pub Writes : {X E : Type 0} → Output → Result X E → Output → Output → Type 0
Writes old (Ok _) new done = (new ≡ done) × Grows old new
Writes old (Err _) new done = new ≡ old

-- a step of a longer writing, which may leave a part of it when out of memory
abbrev pub Appends : {X E : Type 0} → Output → Result X E → Output → Output → Type 0
Appends old (Ok _) new done = (new ≡ done) × Grows old new
Appends old (Err _) new done = Grows old new
