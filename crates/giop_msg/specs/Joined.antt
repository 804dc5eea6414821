-- Joined octets: those of a message from offset 12 on, of all its fragments together, without the
-- four octets in each Fragment that are its request id (CORBA 3.3 Part 2, 9.4.9).
use Rattle.std.specs.Prelude.{◌≡◌, ℕ, ◌+◌, ◌==◌, List, ◌++◌, length, Result, Ok, Err, if◌then◌else◌}
use Rattle.giop_cdr.specs.declared.order.Order.{Order}
use Rattle.giop_cdr.specs.declared.fault.CdrFault.{CdrFault}
use Rattle.giop_cdr.specs.declared.fault.CdrKind.TheVariants.{NoMemory, Trailing}
use Rattle.giop_cdr.specs.Reading.Cursor.{Cursor, pad}
use Rattle.giop_cdr.specs.Reading.Values.{◌>>=◌, fault}
use Rattle.giop_cdr.specs.Layout.{Layout}
use Rattle.giop_msg.specs.declared.version.Version.{Version}
use Rattle.giop_msg.specs.declared.version.Version.TheVariants.{V10, V11, V12}

-- where joined octets begin to be read
abbrev pub joined_from : Order → List ℕ → Cursor
joined_from order joined = record { order = order; at = 12; rest = joined }

-- where the body stands behind a head that ends at an offset: in 1.2 at the first multiple of 8 at
-- or past that (9.4.2.2), before that at the offset itself
abbrev pub body_place : Version → ℕ → ℕ
body_place V10 at = at
body_place V11 at = at
body_place V12 at = at + pad 8 at

-- where what follows a head stands that has no body: where the head ends
abbrev pub right_behind : ℕ → ℕ
right_behind at = at

-- joined octets begin with a head, and what follows it is at an offset, which depends on where the
-- head ends
pub record BeginsWith {A : Type 0} (layout : Layout A) (place : ℕ → ℕ) (order : Order)
    (joined : List ℕ) (head : A) (body : ℕ) : Type 0 where
  pub front : List ℕ
  pub rest : List ℕ
  pub whole : joined ≡ front ++ rest
  pub spells : layout.spells order 12 head front
  pub placed : body ≡ place (12 + length front)

-- the head that joined octets begin with, and the offset of what follows it; or the first fault
unfoldable pub head_of_joined : {A : Type 0} → Layout A → (ℕ → ℕ) → Order → List ℕ
    → Result (A × ℕ) CdrFault
head_of_joined layout place order joined = do
  head ← layout.read (joined_from order joined)
  Ok (head.0, place head.1.at)

-- joined octets are a value's, and nothing stands behind it
pub record AreWhole {A : Type 0} (layout : Layout A) (order : Order) (joined : List ℕ)
    (value : A) : Type 0 where
  pub spells : layout.spells order 12 value joined

-- the value that joined octets are, with nothing behind it; or the first fault
unfoldable pub whole_of_joined : {A : Type 0} → Layout A → Order → List ℕ → Result A CdrFault
whole_of_joined layout order joined = do
  value ← layout.read (joined_from order joined)
  if length value.1.rest == 0 then Ok value.0 else Err (fault value.1.at Trailing)

-- out of memory, reported of a head as a whole
abbrev pub no_memory : CdrFault
no_memory = fault 12 NoMemory

-- this head and this place of its body are returned, or reading is out of memory
abbrev pub IsAnswered : {A : Type 0} → Result (A × ℕ) CdrFault → A → ℕ → Type 0
IsAnswered (Ok answer) head body = (answer.0 ≡ head) × (answer.1 ≡ body)
IsAnswered (Err e) head body = e ≡ no_memory
