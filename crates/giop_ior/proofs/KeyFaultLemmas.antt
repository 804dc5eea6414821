-- The first fault of a key, octet by octet.
use Rattle.std.proofs.Common.{◌≡◌, ◌≢◌, ℕ, ◌+◌, ◌-◌, ◌<◌, ◌≤◌, ◌==◌, Bool, true, false, List, [], ◌∷◌, length, take, drop, length-drop, Some, if◌then◌else◌, refl, sym, ap, subst, ◌&&◌, ◌∙◌, arith, slice_index}
use Rattle.std.specs.Char.{is_digit}
use Rattle.std.proofs.lemmas.Bool.{false≢true}
use Rattle.std.proofs.lemmas.Grind.{common_steps}
use Rattle.giop_ior.proofs.NumberLemmas.{both}
use Rattle.giop_ior.specs.Corbaloc.{is_key_octet}
use Rattle.giop_ior.specs.CorbalocFault.{fault}
use Rattle.giop_ior.specs.CorbalocReading.{key_fault, key_octet_len, is_escape, wrong_key_octet}

abbrev first_kept : List ℕ → Bool
first_kept text = is_key_octet (slice_index text 0)

abbrev first_escaped : List ℕ → Bool
first_escaped text = is_escape (slice_index text 0) (slice_index text 1) (slice_index text 2)

pub kept_goes_on : (at : ℕ) (text : List ℕ) → 0 < length text → first_kept text ≡ true
    → (1 ≤ length text) × (key_fault at text ≡ key_fault (at + 1) (drop 1 text))
kept_goes_on at [] some kept = absurd (omega arith)
kept_goes_on at (x ∷ []) some kept = (some, rw kept refl)
kept_goes_on at (x ∷ y ∷ []) some kept = (some, rw kept refl)
kept_goes_on at (x ∷ y ∷ z ∷ text) some kept = (some, rw kept refl)

pub escape_goes_on : (at : ℕ) (text : List ℕ) → first_kept text ≡ false → first_escaped text ≡ true
    → (3 ≤ length text) × (key_fault at text ≡ key_fault (at + 3) (drop 3 text))
escape_goes_on at [] not_kept escaped = let wrong : false ≡ true = escaped in absurd (false≢true wrong)
escape_goes_on at (x ∷ []) not_kept escaped = absurd (false≢true (both (x == 37 && false) false escaped).1)
escape_goes_on at (x ∷ y ∷ []) not_kept escaped = absurd (false≢true (both (x == 37 && is_digit y 16) false escaped).1)
escape_goes_on at (x ∷ y ∷ z ∷ text) not_kept escaped = (omega arith, rw (not_kept, escaped) refl)

goes_on : (p q : Bool) (at : ℕ) (text : List ℕ) (n : ℕ) → first_kept text ≡ p → first_escaped text ≡ q
    → (if p then 1 else if q then 3 else 0) ≡ n → 0 < n → 0 < length text
    → (n ≤ length text) × (key_fault at text ≡ key_fault (at + n) (drop n text))
goes_on true q at text n kept escaped is above some =
    subst (λ k. (k ≤ length text) × (key_fault at text ≡ key_fault (at + k) (drop k text))) is (kept_goes_on at text some kept)
goes_on false true at text n kept escaped is above some =
    subst (λ k. (k ≤ length text) × (key_fault at text ≡ key_fault (at + k) (drop k text))) is (escape_goes_on at text kept escaped)
goes_on false false at text n kept escaped is above some = absurd (omega arith)

-- the octets that spell the first octet of a key are passed over
pub key_goes_on : (at : ℕ) (text : List ℕ) (n : ℕ) → key_octet_len text ≡ n → 0 < n → 0 < length text
    → (n ≤ length text) × (key_fault at text ≡ key_fault (at + n) (drop n text))
key_goes_on at text n is above some = goes_on (first_kept text) (first_escaped text) at text n refl refl is above some

abbrev pub spelling_len : Bool → Bool → ℕ
spelling_len p q = if p then 1 else if q then 3 else 0

pub not_spelled : (p q : Bool) → spelling_len p q ≡ 0 → (p ≡ false) × (q ≡ false)
not_spelled true q is = absurd (omega arith)
not_spelled false true is = absurd (omega arith)
not_spelled false false is = (refl, refl)

-- where none spell it, it is wrong
pub key_stops : (at : ℕ) (text : List ℕ) → key_octet_len text ≡ 0 → 0 < length text
    → key_fault at text ≡ Some (fault at (wrong_key_octet (slice_index text 0)))
key_stops at [] is some = absurd (omega arith)
key_stops at (x ∷ []) is some = let no = not_spelled (is_key_octet x) (is_escape x 0 0) is in rw no.0 refl
key_stops at (x ∷ y ∷ []) is some = let no = not_spelled (is_key_octet x) (is_escape x y 0) is in rw no.0 refl
key_stops at (x ∷ y ∷ z ∷ text) is some = let no = not_spelled (is_key_octet x) (is_escape x y z) is in rw (no.0, no.1) refl

-- the same at a place within a text
pub key_goes_on_within : (at i n : ℕ) (text : List ℕ) → i < length text → key_octet_len (take (length text - i) (drop i text)) ≡ n → n ≢ 0
    → (i + n ≤ length text) × (key_fault (at + i) (drop i text) ≡ key_fault (at + (i + n)) (drop (i + n) text))
key_goes_on_within at i n text within is some =
    let whole : take (length text - i) (drop i text) ≡ drop i text = grind (arith, common_steps) in
    let left : length (drop i text) ≡ length text - i = length-drop i text in
    let step = key_goes_on (at + i) (drop i text) n (ap key_octet_len (sym whole) ∙ is) (omega arith) (omega arith) in
    let further : drop n (drop i text) ≡ drop (i + n) text = grind (arith, common_steps) in
    let place : at + i + n ≡ at + (i + n) = omega arith in
    (omega (arith, step.0), step.1 ∙ ap (λ k. key_fault k (drop n (drop i text))) place ∙ ap (key_fault (at + (i + n))) further)

-- no key octet at a place within a text
pub key_stops_within : (at i : ℕ) (text : List ℕ) → i < length text → key_octet_len (take (length text - i) (drop i text)) ≡ 0
    → key_fault (at + i) (drop i text) ≡ Some (fault (at + i) (wrong_key_octet (slice_index text i)))
key_stops_within at i text within is =
    let whole : take (length text - i) (drop i text) ≡ drop i text = grind (arith, common_steps) in
    let left : length (drop i text) ≡ length text - i = length-drop i text in
    let first : slice_index (drop i text) 0 ≡ slice_index text i = grind (arith, common_steps) in
    key_stops (at + i) (drop i text) (ap key_octet_len (sym whole) ∙ is) (omega arith) ∙ rw first refl
