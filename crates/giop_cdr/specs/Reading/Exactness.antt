-- What it is to read a spelling, to refuse what spells nothing, and what follows (CORBA 3.3 Part 2,
-- 9.3).
use Rattle.std.specs.Prelude.{◌≡◌, ℕ, zero, suc, ◌+◌, ◌-◌, ◌<◌, ◌≤◌, ◌⊎◌, Bool, true, false, List, ◌++◌, length, take, Ok, Err}
use Rattle.std.specs.Int.{w8, w32}
use Rattle.giop_cdr.specs.declared.order.Order.{Order}
use Rattle.giop_cdr.specs.declared.fault.CdrFault.{CdrFault}
use Rattle.giop_cdr.specs.declared.fault.CdrKind.{CdrKind}
use Rattle.giop_cdr.specs.declared.fault.CdrKind.TheVariants.{Short, BadBoolean, BadString, BadCount, BoundPassed}
use Rattle.giop_cdr.specs.Reading.Cursor.{Cursor, pad, place}
use Rattle.giop_cdr.specs.Reading.Values.{Reading, fault, is_text, passes}
use Rattle.giop_cdr.specs.Spelling.{Spelling, SpellsNumber}

-- from one cursor to the next lies a value
abbrev pub Stretch : Type 0 → Type 1
Stretch A = Cursor → A → Cursor → Type 0

-- the octets between two cursors spell the value, and nothing else changed
pub record Took {A : Type 0} (P : Spelling A) (c : Cursor) (v : A) (d : Cursor) : Type 0 where
  pub octets : List ℕ
  pub front : c.rest ≡ octets ++ d.rest
  pub at : d.at ≡ c.at + length octets
  pub order : d.order ≡ c.order
  pub spells : P c.order c.at v octets

-- why nothing is read at a cursor
abbrev pub Refusal : Type 1
Refusal = Cursor → CdrFault → Type 0

-- an answer is a value exactly where it lies there, and a fault exactly where it is refused so
pub record IsExactHere {A : Type 0} (M : A → Cursor → Type 0) (R : CdrFault → Type 0)
    (answer : Reading A) : Type 0 where
  pub found : (v : A) (d : Cursor) → answer ≡ Ok (v, d) → M v d
  pub only : (v : A) (d : Cursor) → M v d → answer ≡ Ok (v, d)
  pub refused : (e : CdrFault) → answer ≡ Err e → R e
  pub refuses : (e : CdrFault) → R e → answer ≡ Err e

-- what reading answers is exact, wherever it begins
abbrev pub IsExact : {A : Type 0} → Stretch A → Refusal → (Cursor → Reading A) → Type 0
IsExact M R read = (c : Cursor) → IsExactHere (M c) (R c) (read c)

-- no spelling of a value begins another spelling, of this value or of another
abbrev pub StandsAlone : {A : Type 0} → Spelling A → Type 0
StandsAlone {A} P = (o : Order) (at : ℕ) (v w : A) (a b x y : List ℕ) → P o at v a → P o at w b
    → a ++ x ≡ b ++ y → (v ≡ w) × (a ≡ b)

-- every spelling has an octet: so a count above what remains can't be met
abbrev pub TakesOctets : {A : Type 0} → Spelling A → Type 0
TakesOctets {A} P = (o : Order) (at : ℕ) (v : A) (b : List ℕ) → P o at v b → 0 < length b

-- one value and then another
pub record InTurn {A B : Type 0} (M : Stretch A) (N : A → Stretch B) (c : Cursor) (v : B)
    (e : Cursor) : Type 0 where
  pub first : A
  pub middle : Cursor
  pub front : M c first middle
  pub back : N first middle v e

-- the first value lies there, and what follows is refused
pub record RefusedBehind {A : Type 0} (M : Stretch A) (S : A → Refusal) (c : Cursor)
    (e : CdrFault) : Type 0 where
  pub first : A
  pub middle : Cursor
  pub front : M c first middle
  pub back : S first middle e

-- the first of two values is refused, or the second behind it
abbrev pub FirstRefused : {A : Type 0} → Stretch A → Refusal → (A → Refusal) → Refusal
FirstRefused M R S c e = R c e ⊎ RefusedBehind M S c e

-- never
abbrev pub NeverRefused : Refusal
NeverRefused c e = ⊥

-- a value of n octets has fewer octets left, padding included
abbrev pub RefusedShort : ℕ → Refusal
RefusedShort n c e = (length c.rest < pad n c.at + n) × (e ≡ fault (place n c) Short)

-- an octet is there that is no boolean
abbrev pub RefusedBoolean : Refusal
RefusedBoolean c e =
    FirstRefused (Took (SpellsNumber w8)) (RefusedShort 1)
    (λ n d f. (1 < n) × (f ≡ fault (place 1 c) BadBoolean)) c e

-- no value is there, or one that fails a test
abbrev pub RefusedUnless : {A : Type 0} → (A → Bool) → ℕ → CdrKind → Stretch A → Refusal → Refusal
RefusedUnless test n kind M R c e =
    FirstRefused M R (λ x d f. (test x ≡ false) × (f ≡ fault (place n c) kind)) c e

-- a count, and no more than as many octets behind it
abbrev pub Counts : Stretch ℕ
Counts c n d = Took (SpellsNumber w32) c n d × (n ≤ length d.rest)

-- no count is there, or more are counted than octets follow
abbrev pub RefusedCount : Refusal
RefusedCount c e =
    FirstRefused (Took (SpellsNumber w32)) (RefusedShort 4)
    (λ n d f. (length d.rest < n) × (f ≡ fault (place 4 c) BadCount)) c e

-- the count of octets is refused, or is above the bound
abbrev pub RefusedOctets : ℕ → Refusal
RefusedOctets bound c e =
    FirstRefused Counts RefusedCount
    (λ n d f. (passes bound n ≡ true) × (f ≡ fault (place 4 c) BoundPassed)) c e

-- the length of a string is refused, or the octets are none, or are above the bound
abbrev pub RefusedString : ℕ → Refusal
RefusedString bound c e = FirstRefused Counts RefusedCount
    (λ n d f. ((is_text (take n d.rest) ≡ false) × (f ≡ fault (place 4 c) BadString))
    ⊎ ((is_text (take n d.rest) ≡ true) × (passes bound (n - 1) ≡ true)
    × (f ≡ fault (place 4 c) BoundPassed)))
    c e

-- the first of n values that is refused, while those before it lie there
abbrev pub RefusedAmong : {A : Type 0} → Stretch A → Refusal → ℕ → Refusal
RefusedAmong M R zero c e = ⊥
RefusedAmong M R (suc n) c e = FirstRefused M R (λ _. RefusedAmong M R n) c e

-- the count of a sequence is refused, or the first of its values that is
abbrev pub RefusedSequence : {A : Type 0} → Stretch A → Refusal → Refusal
RefusedSequence M R = FirstRefused Counts RefusedCount (λ n. RefusedAmong M R n)
