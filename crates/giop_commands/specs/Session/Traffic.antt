-- What passes through the pipes of a session, as far as it is known.
use Rattle.std.specs.Prelude.{ℕ, List, Option}
use Rattle.giop_commands.specs.declared.session.given.Pipes.{Pipes}

-- what is known of a reader or a writer before a call, and behind it
pub record Change : Type 0 where
  pub before : Option (List ℕ)
  pub after : Option (List ℕ)

-- of a value that a call changes, as it was and is, by what is known of such a value
abbrev pub change : {A : Type 0} → (A → Option (List ℕ)) → A → A → Change
change known old new = record { before = known old; after = known new }

-- what a call does to the octets that a reader will still give, those that a writer holds, and what
-- is printed
pub record Traffic : Type 0 where
  pub input : Change
  pub output : Change
  pub text : Change

-- of pipes, as they were and are
abbrev pub traffic : {R W O : Type 0} → (R → Option (List ℕ)) → (W → Option (List ℕ))
    → (O → Option (List ℕ)) → Pipes R W O → Pipes R W O → Traffic
traffic remaining contents printed old new = record {
  input = change remaining old.reader new.reader;
  output = change contents old.writer new.writer;
  text = change printed old.out new.out;
}
