-- Parts of a window are parts of the store.
use Rattle.std.proofs.Common.{◌≡◌, ℕ, ◌+◌, ◌-◌, ◌<◌, ◌≤◌, List, [], length, take, drop, refl, arith, length-drop}
use Rattle.std.proofs.Math.ListN.{drop_of_length-le}
use Rattle.std.proofs.lemmas.List.{drop-take, drop-drop, take-take, length-take-le}
use Rattle.giop_cdr.specs.declared.order.Order.{Order}
use Rattle.giop_cdr.specs.Reading.Cursor.{Cursor, skip, window}

pub length-window : (i e : ℕ) (l : List ℕ) → i ≤ e → e ≤ length l → length (window i e l) ≡ e - i
length-window i e l low high = length-take-le (e - i) (drop i l) (omega (arith, length-drop i l))

pub drop-window : (k i e : ℕ) (l : List ℕ) → i + k ≤ e → drop k (window i e l) ≡ window (i + k) e l
drop-window k i e l within =
    let split : e - i ≡ k + (e - (i + k)) = omega arith in
    rw (split, drop-take k (e - (i + k)) (drop i l), drop-drop k i l) refl

pub take-window : (n p i e : ℕ) (l : List ℕ) → i + p + n ≤ e → take n (drop p (window i e l)) ≡ take n (drop (i + p) l)
take-window n p i e l within =
    rw (drop-window p i e l (omega arith)) (take-take n (e - (i + p)) (drop (i + p) l) (omega arith))

-- nothing is left of a window that its end ends
pub window-end : (e : ℕ) (l : List ℕ) → window e e l ≡ []
window-end e l =
    let none : e - e ≡ 0 = omega arith in
    rw none refl

-- more is dropped of a window than it has
pub drop-over : (k i e : ℕ) (l : List ℕ) → i ≤ e → e ≤ length l → e < i + k → drop k (window i e l) ≡ window e e l
drop-over k i e l low high over =
    rw (window-end e l) (drop_of_length-le (window i e l) (omega (arith, length-window i e l low high)))

abbrev cursor_of : Order → ℕ → List ℕ → Cursor
cursor_of order at rest = record { order = order; at = at; rest = rest }

-- a reader that goes on past its end stands at the end
pub skip-over : (k : ℕ) (order : Order) (at i e : ℕ) (l : List ℕ) → i ≤ e → e ≤ length l → e < i + k
    → skip k (cursor_of order at (window i e l)) ≡ cursor_of order (at + k) (window e e l)
skip-over k order at i e l low high over = rw (drop-over k i e l low high over) refl
