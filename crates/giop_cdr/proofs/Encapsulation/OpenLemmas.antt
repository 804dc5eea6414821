-- Encapsulations, by the steps in which they are opened.
use Rattle.std.proofs.Common.{◌≡◌, ℕ, zero, suc, ◌+◌, ◌-◌, ◌<◌, ◌≤◌, List, ◌∷◌, length, get_or, take, drop, Ok, Err, refl, ap, ◌∙◌, add-one, drop-cons, arith}
use Rattle.std.proofs.lemmas.List.{take-take}
use Rattle.giop_cdr.specs.declared.order.Order.TheVariants.{Big, Little}
use Rattle.giop_cdr.specs.declared.fault.CdrFault.{CdrFault}
use Rattle.giop_cdr.specs.declared.fault.CdrKind.TheVariants.{BadOrder}
use Rattle.giop_cdr.specs.Reading.Cursor.{Cursor, place, skip, window}
use Rattle.giop_cdr.specs.Reading.Values.{fault, octet_count_at}
use Rattle.giop_cdr.specs.Encapsulation.Opened.{content_of, opened_of, encapsulation_at}
use Rattle.giop_cdr.proofs.Reading.CountSteps.{octets_counted, octets_uncounted}

-- what the counted octets open
pub opened_counted : (c d content : Cursor) (n at : ℕ) → octet_count_at 0 c ≡ Ok (n, d) → at ≡ place 4 c + 4
    → opened_of at (take n d.rest) (skip n d) ≡ Ok (content, skip n d) → encapsulation_at c ≡ Ok (content, skip n d)
unfolding encapsulation_at
opened_counted c d content n at counted there opens = rw (octets_counted 0 c d n counted, ← there) opens

pub refused_counted : (c d : Cursor) (n at : ℕ) (e : CdrFault) → octet_count_at 0 c ≡ Ok (n, d) → at ≡ place 4 c + 4
    → opened_of at (take n d.rest) (skip n d) ≡ Err e → encapsulation_at c ≡ Err e
unfolding encapsulation_at
refused_counted c d n at e counted there refuses = rw (octets_counted 0 c d n counted, ← there) refuses

pub uncounted : (c : Cursor) (e : CdrFault) → octet_count_at 0 c ≡ Err e → encapsulation_at c ≡ Err e
unfolding encapsulation_at
uncounted c e refuses = rw (octets_uncounted 0 c e refuses) refl

-- the first of some octets of a store, and those behind it
pub take-window_cons : (n i e : ℕ) (l : List ℕ) → 0 < n → i + n ≤ e → e ≤ length l
    → take n (window i e l) ≡ get_or l i 0 ∷ window (i + 1) (i + n) l
take-window_cons n i e l some within there =
    let first : drop i l ≡ get_or l i 0 ∷ drop (i + 1) l = rw add-one (drop-cons l i 0 (omega arith)) in
    let fewer : n ≡ suc (i + n - (i + 1)) = omega arith in
    take-take n (e - i) (drop i l) (omega arith) ∙ (ap (λ (m : ℕ). take m (drop i l)) fewer ∙ rw first refl)

-- the three cases of an order octet
pub opened_big : (n i e at : ℕ) (l : List ℕ) (after : Cursor) → 0 < n → i + n ≤ e → e ≤ length l → get_or l i 0 ≡ 0
    → opened_of at (take n (window i e l)) after ≡ Ok (content_of Big (window (i + 1) (i + n) l), after)
opened_big n i e at l after some within there order = rw (take-window_cons n i e l some within there, order) refl

pub opened_little : (n i e at : ℕ) (l : List ℕ) (after : Cursor) → 0 < n → i + n ≤ e → e ≤ length l → get_or l i 0 ≡ 1
    → opened_of at (take n (window i e l)) after ≡ Ok (content_of Little (window (i + 1) (i + n) l), after)
opened_little n i e at l after some within there order = rw (take-window_cons n i e l some within there, order) refl

no_order : (octet at : ℕ) (octets : List ℕ) (after : Cursor) → (octet ≡ 0 → ⊥) → (octet ≡ 1 → ⊥) → opened_of at (octet ∷ octets) after ≡ Err (fault at BadOrder)
no_order zero at octets after not_big not_little = absurd (not_big refl)
no_order (suc zero) at octets after not_big not_little = absurd (not_little refl)
no_order (suc (suc k)) at octets after not_big not_little = refl

pub opened_badly : (n i e at : ℕ) (l : List ℕ) (after : Cursor) → 0 < n → i + n ≤ e → e ≤ length l → (get_or l i 0 ≡ 0 → ⊥) → (get_or l i 0 ≡ 1 → ⊥)
    → opened_of at (take n (window i e l)) after ≡ Err (fault at BadOrder)
opened_badly n i e at l after some within there not_big not_little =
    rw (take-window_cons n i e l some within there) (no_order (get_or l i 0) at (window (i + 1) (i + n) l) after not_big not_little)
