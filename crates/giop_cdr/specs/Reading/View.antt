-- Values where they lie: what is known of a reader that stands at them.
use Rattle.std.specs.Prelude.{ℕ, List, [], Ok, Err, IsOk}
use Rattle.std.specs.Int.{w32}
use Rattle.giop_cdr.specs.Reading.Cursor.{Cursor}
use Rattle.giop_cdr.specs.Reading.Values.{Reading, ◌>>=◌, number_at, octets_at, items_at}

-- what is made of an unsigned long and a sequence of octets
unfoldable pub tagged_at : {A : Type 0} → (ℕ → List ℕ → A) → Cursor → Reading A
tagged_at made c = do
  tag ← number_at w32 c
  octets ← octets_at 0 tag.1
  Ok (made tag.0 octets.0, octets.1)

-- the values that reading answers, where it answers any
abbrev pub values_in : {A : Type 0} → Reading (List A) → List A
values_in (Ok x) = x.0
values_in (Err e) = []

-- the values that lie at a cursor, as many as were counted
abbrev pub lying : {A : Type 0} → (ℕ → List ℕ → A) → ℕ → Cursor → List A
lying made count c = values_in (items_at (tagged_at made) count c)

-- as many as were counted do lie there
abbrev pub DoLie : {A : Type 0} → (ℕ → List ℕ → A) → ℕ → Cursor → Type 0
DoLie made count c = IsOk (items_at (tagged_at made) count c)
