-- Joined octets that begin with a head: what is read of them is what they spell.
use Rattle.std.proofs.Common.{◌≡◌, ℕ, ◌+◌, ◌<◌, ◌≤◌, ◌==◌, Bool, true, false, if◌then◌else◌, List, [], ◌∷◌, ◌++◌, length, Result, Ok, Err, refl, sym, ap, subst, ◌∙◌, append-nil, arith}
use Rattle.std.proofs.lemmas.Bool.{eqb-true}
use Rattle.std.proofs.lemmas.Bool.Decides.{nat_tests}
use Rattle.giop_cdr.specs.declared.fault.CdrKind.TheVariants.{Trailing}
use Rattle.giop_cdr.specs.Reading.Values.{Reading, ◌>>=◌, fault}
use Rattle.giop_cdr.specs.declared.order.Order.{Order}
use Rattle.giop_cdr.specs.declared.fault.CdrFault.{CdrFault}
use Rattle.giop_cdr.specs.Reading.Cursor.{Cursor}
use Rattle.giop_cdr.specs.Layout.{Layout, IsLawful}
use Rattle.giop_cdr.specs.Ending.{ended}
use Rattle.giop_cdr.proofs.Reading.Answers.{bind_elim, ok_same}
use Rattle.giop_msg.specs.Joined.{joined_from, BeginsWith, head_of_joined, AreWhole, whole_of_joined}

pub head_found : {A : Type 0} (layout : Layout A) (place : ℕ → ℕ) (order : Order) (octets : List ℕ) (head : A) (after : Cursor)
    → layout.read (joined_from order octets) ≡ Ok (head, after) → head_of_joined layout place order octets ≡ Ok (head, place after.at)
unfolding head_of_joined
head_found layout place order octets head after h = rw h refl

pub head_refused : {A : Type 0} (layout : Layout A) (place : ℕ → ℕ) (order : Order) (octets : List ℕ) (e : CdrFault)
    → layout.read (joined_from order octets) ≡ Err e → head_of_joined layout place order octets ≡ Err e
unfolding head_of_joined
head_refused layout place order octets e h = rw h refl

-- what is read is what the octets begin with
pub head_is : {A : Type 0} {layout : Layout A} → IsLawful layout → (place : ℕ → ℕ) (order : Order) (octets : List ℕ) (head : A) (body : ℕ)
    → head_of_joined layout place order octets ≡ Ok (head, body) → BeginsWith layout place order octets head body
unfolding head_of_joined
head_is {A} {layout} lawful place order octets head body h = bind_elim (BeginsWith layout place order octets head body) (layout.read (joined_from order octets))
    (λ x. Ok (x.0, place x.1.at)) (head, body)
    (λ x is f.
    let same : (x.0, place x.1.at) ≡ (head, body) = ok_same (x.0, place x.1.at) (head, body) f in
    let t = (lawful.exact (joined_from order octets)).found x.0 x.1 is in
    let here : BeginsWith layout place order octets x.0 (place x.1.at)
    = record { front = t.octets; rest = x.1.rest; whole = t.front; spells = t.spells; placed = ap place t.at } in
    subst (λ (p : A × ℕ). BeginsWith layout place order octets p.0 p.1) same here) h

-- and what they begin with is read
pub head_only : {A : Type 0} {layout : Layout A} → IsLawful layout → (place : ℕ → ℕ) (order : Order) (octets : List ℕ) (head : A) (body : ℕ)
    → BeginsWith layout place order octets head body → head_of_joined layout place order octets ≡ Ok (head, body)
head_only {A} {layout} lawful place order octets head body is =
    let after : Cursor = record { order = order; at = 12 + length is.front; rest = is.rest } in
    let read : layout.read (joined_from order octets) ≡ Ok (head, after) = (lawful.exact (joined_from order octets)).only head after
    (record { octets = is.front; front = is.whole; at = refl; order = refl; spells = is.spells }) in
    head_found layout place order octets head after read ∙ rw is.placed refl

abbrev answered : {A : Type 0} → A → ℕ → Result (A × ℕ) CdrFault
answered head body = Ok (head, body)

-- a copy of the head that was found is that head
pub copy_is : {A : Type 0} (copy found head : A) (at body : ℕ) → copy ≡ found → answered found at ≡ answered head body → (copy ≡ head) × (at ≡ body)
copy_is {A} copy found head at body same answer =
    let both : (found, at) ≡ (head, body) = ok_same (found, at) (head, body) answer in
    (same ∙ ap (λ (p : A × ℕ). p.0) both, ap (λ (p : A × ℕ). p.1) both)

nothing : (rest : List ℕ) → (length rest == 0) ≡ true → rest ≡ []
nothing [] empty = refl
nothing (x ∷ rest) empty = absurd (omega (arith, eqb-true (length (x ∷ rest)) 0 empty))

-- what a reading answers that has to come to the end of the octets
bind_value : {A : Type 0} (P : Type 0) (r : Reading A) (value : A)
    → ((x : A × Cursor) → r ≡ Ok x → (length x.1.rest == 0) ≡ true → x.0 ≡ value → P)
    → (r >>= λ x. if length x.1.rest == 0 then Ok x.0 else Err (fault x.1.at Trailing)) ≡ Ok value → P
bind_value P (Err e) value found h = absurd cc
bind_value {A} P (Ok x) value found h = at_end (length x.1.rest == 0) refl h
  where
    at_end : (b : Bool) → (length x.1.rest == 0) ≡ b → (if b then Ok x.0 else Err (fault x.1.at Trailing)) ≡ Ok value → P
    at_end true e h = found x refl e cc
    at_end false e h = absurd cc

-- ---- joined octets that are a value's, and nothing else

-- what is read of all octets they are
pub whole_is : {A : Type 0} {layout : Layout A} → IsLawful layout → (order : Order) (octets : List ℕ) (value : A)
    → whole_of_joined layout order octets ≡ Ok value → AreWhole layout order octets value
unfolding whole_of_joined
whole_is {A} {layout} lawful order octets value h = bind_value (AreWhole layout order octets value) (layout.read (joined_from order octets)) value
    (λ x is empty same.
    let t = (lawful.exact (joined_from order octets)).found x.0 x.1 is in
    let all : octets ≡ t.octets = t.front ∙ ap (λ rest. t.octets ++ rest) (nothing x.1.rest empty) ∙ append-nil t.octets in
    record { spells = subst (λ (v : A). layout.spells order 12 v octets) same (subst (λ b. layout.spells order 12 x.0 b) (sym all) t.spells) }) h

-- and what they are is read
pub whole_only : {A : Type 0} {layout : Layout A} → IsLawful layout → (order : Order) (octets : List ℕ) (value : A)
    → AreWhole layout order octets value → whole_of_joined layout order octets ≡ Ok value
unfolding whole_of_joined
whole_only {A} {layout} lawful order octets value is =
    let after : Cursor = record { order = order; at = 12 + length octets; rest = [] } in
    let read : layout.read (joined_from order octets) ≡ Ok (value, after) = (lawful.exact (joined_from order octets)).only value after
    (record { octets = octets; front = sym (append-nil octets); at = refl; order = refl; spells = is.spells }) in
    rw read refl

pub whole_found : {A : Type 0} (layout : Layout A) (order : Order) (octets : List ℕ) (value : A) (after : Cursor)
    → layout.read (joined_from order octets) ≡ Ok (value, after) → length after.rest ≤ 0 → whole_of_joined layout order octets ≡ Ok value
unfolding whole_of_joined
whole_found layout order octets value after h none = rw (h, is_none (length after.rest) none) refl
  where
    is_none : (n : ℕ) → n ≤ 0 → (n == 0) ≡ true
    is_none n none = grind (arith, nat_tests)

pub whole_trails : {A : Type 0} (layout : Layout A) (order : Order) (octets : List ℕ) (value : A) (after : Cursor)
    → layout.read (joined_from order octets) ≡ Ok (value, after) → 0 < length after.rest → whole_of_joined layout order octets ≡ Err (fault after.at Trailing)
unfolding whole_of_joined
whole_trails layout order octets value after h some = rw (h, is_some (length after.rest) some) refl
  where
    is_some : (n : ℕ) → 0 < n → (n == 0) ≡ false
    is_some n some = grind (arith, nat_tests)

pub whole_refused : {A : Type 0} (layout : Layout A) (order : Order) (octets : List ℕ) (e : CdrFault)
    → layout.read (joined_from order octets) ≡ Err e → whole_of_joined layout order octets ≡ Err e
unfolding whole_of_joined
whole_refused layout order octets e h = rw h refl

-- what is read so is a value and nothing behind it
pub whole_is_ended : {A : Type 0} (layout : Layout A) (order : Order) (octets : List ℕ)
    → whole_of_joined layout order octets ≡ (ended layout).read (joined_from order octets)
unfolding whole_of_joined ended
whole_is_ended layout order octets = refl
