-- What reading a value at a cursor answers: the value and the cursor behind it, or the fault
-- (CORBA 3.3 Part 2, 9.3.1 primitive types, 9.3.2 constructed types).
use Rattle.std.specs.Prelude.{ℕ, zero, suc, ℤ, ◌+◌, ◌-◌, ◌==◌, ◌&&◌, nat_lt, not, Bool, true, if◌then◌else◌, List, [], ◌∷◌, length, take, slice_index, Result, Ok, Err}
use Rattle.std.specs.List.{list_any}
use Rattle.std.specs.Int.{Width, w8, w32, byte_len, cast_signed}
use Rattle.giop_cdr.specs.declared.fault.CdrFault.{CdrFault}
use Rattle.giop_cdr.specs.declared.fault.CdrKind.{CdrKind}
use Rattle.giop_cdr.specs.declared.fault.CdrKind.TheVariants.{Short, BadBoolean, BadString, BadCount, BoundPassed}
use Rattle.giop_cdr.specs.Reading.Cursor.{Cursor, num, pad, place, skip}

-- a value and the cursor behind it, or why there is none
abbrev pub Reading : Type 0 → Type 0
Reading A = Result (A × Cursor) CdrFault

-- one step and then another; the first fault is the answer
infixl 10 ◌>>=◌
abbrev pub ◌>>=◌ : {A B : Type 0} → Result A CdrFault → (A → Result B CdrFault) → Result B CdrFault
(Ok x) >>= f = f x
(Err e) >>= f = Err e

abbrev pub fault : ℕ → CdrKind → CdrFault
fault at kind = record { at = at; kind = kind }

-- n octets, aligned to n
unfoldable pub field_at : ℕ → Cursor → Reading (List ℕ)
field_at n c =
    if nat_lt (length c.rest) (pad n c.at + n) then Err (fault (place n c) Short)
    else Ok (take n (skip (pad n c.at) c).rest, skip (pad n c.at + n) c)

-- an unsigned number, aligned to its width
unfoldable pub number_at : Width → Cursor → Reading ℕ
number_at w c = do
  octets ← field_at (byte_len w) c
  Ok (num octets.1.order w octets.0, octets.1)

-- a signed number: two's complement
unfoldable pub signed_at : Width → Cursor → Reading ℤ
signed_at w c = do
  n ← number_at w c
  Ok (cast_signed w n.0, n.1)

-- a boolean: an octet that is 0 or 1
unfoldable pub boolean_at : Cursor → Reading Bool
boolean_at c = do
  n ← number_at w8 c
  if nat_lt 1 n.0 then Err (fault (place 1 c) BadBoolean) else Ok (n.0 == 1, n.1)

-- an unsigned long that counts what follows it: no more than there is
unfoldable pub count_at : Cursor → Reading ℕ
count_at c = do
  n ← number_at w32 c
  if nat_lt (length n.1.rest) n.0 then Err (fault (place 4 c) BadCount) else Ok n

-- whether a length is above a bound, where 0 is no bound
abbrev pub passes : ℕ → ℕ → Bool
passes bound n = not (bound == 0) && nat_lt bound n

-- a sequence of octets: its length and the octets
unfoldable pub octets_at : ℕ → Cursor → Reading (List ℕ)
octets_at bound c = do
  n ← count_at c
  if passes bound n.0 then Err (fault (place 4 c) BoundPassed)
      else Ok (take n.0 n.1.rest, skip n.0 n.1)

-- whether a null is among octets
abbrev pub has_null : List ℕ → Bool
has_null octets = list_any (λ octet. octet == 0) octets

-- whether counted octets are a string's: one null, at the end, or no octet at all
abbrev pub is_text : List ℕ → Bool
is_text [] = true
is_text (b ∷ bs) =
    (slice_index (b ∷ bs) (length bs) == 0) && not (has_null (take (length bs) (b ∷ bs)))

-- a string: a length that counts its null, the octets, the null; a length of 0 is the empty string
unfoldable pub string_at : ℕ → Cursor → Reading (List ℕ)
string_at bound c = do
  n ← count_at c
  if not (is_text (take n.0 n.1.rest)) then Err (fault (place 4 c) BadString)
      else if passes bound (n.0 - 1) then Err (fault (place 4 c) BoundPassed)
      else Ok (take (n.0 - 1) n.1.rest, skip n.0 n.1)

-- the length of a string whose octets follow, and are one within the bound
unfoldable pub text_count_at : ℕ → Cursor → Reading ℕ
text_count_at bound c = do
  n ← count_at c
  if not (is_text (take n.0 n.1.rest)) then Err (fault (place 4 c) BadString)
      else if passes bound (n.0 - 1) then Err (fault (place 4 c) BoundPassed)
      else Ok n

-- the length of a sequence of octets, within the bound
unfoldable pub octet_count_at : ℕ → Cursor → Reading ℕ
octet_count_at bound c = do
  n ← count_at c
  if passes bound n.0 then Err (fault (place 4 c) BoundPassed) else Ok n

-- the cursor behind a value
abbrev pub past : {A : Type 0} → Reading A → Result Cursor CdrFault
past (Ok x) = Ok x.1
past (Err e) = Err e

-- a value that passes a test, or else a fault at its place, which is aligned to n
unfoldable pub such_at : {A : Type 0} → (A → Bool) → ℕ → CdrKind → (Cursor → Reading A) → Cursor
    → Reading A
such_at test n kind read c = do
  x ← read c
  if not (test x.0) then Err (fault (place n c) kind) else Ok x

-- n values, one after the other
unfoldable pub items_at : {A : Type 0} → (Cursor → Reading A) → ℕ → Cursor → Reading (List A)
items_at item zero c = Ok ([], c)
items_at item (suc n) c = do
  first ← item c
  others ← items_at item n first.1
  Ok (first.0 ∷ others.0, others.1)

-- a sequence: its count and as many values
unfoldable pub sequence_at : {A : Type 0} → (Cursor → Reading A) → Cursor → Reading (List A)
sequence_at item c = do
  n ← count_at c
  items_at item n.0 n.1
