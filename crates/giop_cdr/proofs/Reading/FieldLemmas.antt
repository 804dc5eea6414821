-- A field that is read from a window is read from the store.
use Rattle.std.proofs.Common.{◌≡◌, ℕ, ◌+◌, ◌-◌, ◌<◌, ◌≤◌, List, length, take, drop, Ok, Err, refl, arith}
use Rattle.std.proofs.lemmas.Bool.{lt-ltb, le-ltb}
use Rattle.giop_cdr.specs.declared.order.Order.{Order}
use Rattle.giop_cdr.specs.declared.fault.CdrKind.TheVariants.{Short}
use Rattle.giop_cdr.specs.Reading.Cursor.{Cursor, pad, skip, window}
use Rattle.giop_cdr.specs.Reading.Values.{fault, field_at}
use Rattle.giop_cdr.proofs.Reading.WindowLemmas.{length-window, drop-window, take-window}

-- the cursor of a reader over a store
abbrev pub standing : Order → ℕ → ℕ → ℕ → List ℕ → Cursor
standing o at i e l = record { order = o; at = at; rest = window i e l }

pub field_is_short : (n : ℕ) (o : Order) (at i e : ℕ) (l : List ℕ) → i ≤ e → e ≤ length l → e - i < pad n at + n
    → field_at n (standing o at i e l) ≡ Err (fault (at + pad n at) Short)
unfolding field_at
field_is_short n o at i e l low high less =
    let few : length (window i e l) < pad n at + n = rw (length-window i e l low high) less in
    rw (lt-ltb _ _ few) refl

pub field_is_there : (n : ℕ) (o : Order) (at i e : ℕ) (l : List ℕ) → i ≤ e → e ≤ length l → pad n at + n ≤ e - i
    → field_at n (standing o at i e l) ≡ Ok (take n (drop (i + pad n at) l), standing o (at + (pad n at + n)) (i + (pad n at + n)) e l)
unfolding field_at
field_is_there n o at i e l low high enough =
    let many : pad n at + n ≤ length (window i e l) = rw (length-window i e l low high) enough in
    rw (le-ltb _ _ many, take-window n (pad n at) i e l (omega arith), drop-window (pad n at + n) i e l (omega arith)) refl

pub skip_standing : (k : ℕ) (o : Order) (at i e : ℕ) (l : List ℕ) → i + k ≤ e → skip k (standing o at i e l) ≡ standing o (at + k) (i + k) e l
skip_standing k o at i e l within = rw (drop-window k i e l within) refl
