-- A text cut at the first of some octets.
use Rattle.std.proofs.Common.{◌≡◌, ℕ, ◌+◌, ◌<◌, ◌≤◌, ◌==◌, Bool, true, false, List, [], ◌∷◌, ◌++◌, length, get_or, take, drop, Option, Some, None, refl, sym, ap, subst, ◌∙◌, arith, inl, inr, length-append}
use Rattle.std.specs.List.{All, position_or_len, before_first, after_first, slice_split}
use Rattle.std.proofs.lemmas.Bool.{cases_lt, lt-ltb, le-ltb, eqb-true, eq-eqb, false≢true}
use Rattle.std.proofs.lemmas.List.{get_or-take, get_or_append_left, length-take}
use Rattle.std.proofs.Math.Seq.{get_or-append_seam, take-append_seam}
use Rattle.std.proofs.lemmas.Grind.{common_steps}
use Rattle.std.proofs.lemmas.List.Sums.{position_or_len_is, split_at_first, fails_before_first, passes_at_first}
use Rattle.std.proofs.lemmas.List.Splits.{slice_split_none, slice_split_at}
use Rattle.giop_ior.specs.CorbalocReading.{cut}

-- no octet of a text is this one
abbrev pub Lacks : ℕ → List ℕ → Type 0
Lacks octet text = All (λ x. (x == octet) ≡ false) text

-- a text is these two parts around the first octet of this kind
pub record IsCut (octet : ℕ) (text front back : List ℕ) : Type 0 where
  pub parts : text ≡ front ++ octet ∷ back
  pub first : Lacks octet front

cut_before : (octet : ℕ) (text : List ℕ) → position_or_len (λ x. x == octet) text < length text
    → cut octet text ≡ Some (before_first (λ x. x == octet) text, after_first (λ x. x == octet) text)
cut_before octet text within = rw (lt-ltb (position_or_len (λ x. x == octet) text) (length text) within) refl

pub cut_is_none : (octet : ℕ) (text : List ℕ) → length text ≤ position_or_len (λ x. x == octet) text → cut octet text ≡ None
cut_is_none octet text past = rw (le-ltb (position_or_len (λ x. x == octet) text) (length text) past) refl

lacks_before : (octet : ℕ) (text : List ℕ) → Lacks octet (before_first (λ x. x == octet) text)
lacks_before octet text k d within =
    let p : ℕ → Bool = λ x. x == octet in
    let below : k < position_or_len p text = omega (arith, length-take (position_or_len p text) text) in
    rw (get_or-take (position_or_len p text) text k d below) (fails_before_first p text k d below)

cut_parts : (octet : ℕ) (text : List ℕ) → position_or_len (λ x. x == octet) text < length text
    → IsCut octet text (before_first (λ x. x == octet) text) (after_first (λ x. x == octet) text)
cut_parts octet text within =
    let p : ℕ → Bool = λ x. x == octet in
    let is : get_or text (position_or_len p text) 0 ≡ octet = eqb-true _ _ (passes_at_first p text 0 within) in
    record { parts = rw is at (split_at_first p text 0 within); first = lacks_before octet text }

abbrev front_of : Option (List ℕ × List ℕ) → List ℕ
front_of None = []
front_of (Some parts) = parts.0

abbrev back_of : Option (List ℕ × List ℕ) → List ℕ
back_of None = []
back_of (Some parts) = parts.1

unfold_front : {o p : Option (List ℕ × List ℕ)} → o ≡ p → front_of o ≡ front_of p
unfold_front e = ap front_of e

unfold_back : {o p : Option (List ℕ × List ℕ)} → o ≡ p → back_of o ≡ back_of p
unfold_back e = ap back_of e

pub cut_some : (octet : ℕ) (text front back : List ℕ) → cut octet text ≡ Some (front, back) → IsCut octet text front back
cut_some octet text front back e =
    elim (cases_lt (position_or_len (λ x. x == octet) text) (length text)) [
      | inl within ↦
          let same = sym (cut_before octet text within) ∙ e in
          let is : (a b : List ℕ) → a ≡ front → b ≡ back → IsCut octet text a b → IsCut octet text front back =
          λ a b one two h. subst (λ u. IsCut octet text u back) one (subst (λ u. IsCut octet text a u) two h) in
          is _ _ (unfold_front same) (unfold_back same) (cut_parts octet text within)
      | inr past ↦ let none = cut_is_none octet text past in absurd (cc)
    ]

pub cut_none : (octet : ℕ) (text : List ℕ) → cut octet text ≡ None → Lacks octet text
cut_none octet text e k d within =
    elim (cases_lt (position_or_len (λ x. x == octet) text) (length text)) [
      | inl before ↦ let some = cut_before octet text before in absurd (cc)
      | inr past ↦ fails_before_first (λ x. x == octet) text k d (omega arith)
    ]

pub cut_is : (octet : ℕ) (front back : List ℕ) → Lacks octet front → cut octet (front ++ octet ∷ back) ≡ Some (front, back)
cut_is octet front back lacks =
    let p : ℕ → Bool = λ x. x == octet in
    let text : List ℕ = front ++ octet ∷ back in
    let longer : length text ≡ length front + (length back + 1) = length-append front (octet ∷ back) ∙ omega arith in
    let fails : (k : ℕ) → k < length front → p (get_or text k 0) ≡ false =
    λ k below. rw (get_or_append_left front (octet ∷ back) 0 k below) (lacks k 0 below) in
    let here : p (get_or text (length front) 0) ≡ true = rw (get_or-append_seam front octet back 0) (eq-eqb octet octet refl) in
    let place : position_or_len p text ≡ length front = position_or_len_is p text (length front) 0 (omega arith) fails (λ _. here) in
    let before : take (length front) text ≡ front = take-append_seam front (octet ∷ back) in
    let after : drop (length front + 1) text ≡ back = grind (arith, common_steps) in
    cut_before octet text (omega arith) ∙ rw (place, before, after) refl

pub cut_lacks : (octet : ℕ) (text : List ℕ) → Lacks octet text → cut octet text ≡ None
cut_lacks octet text lacks =
    elim (cases_lt (position_or_len (λ x. x == octet) text) (length text)) [
      | inl within ↦
          let wrong : false ≡ true = sym (lacks (position_or_len (λ x. x == octet) text) 0 within) ∙ passes_at_first (λ x. x == octet) text 0 within in
          absurd (false≢true wrong)
      | inr past ↦ cut_is_none octet text past
    ]

pub split_some : (octet : ℕ) (text front back : List ℕ) → cut octet text ≡ Some (front, back)
    → slice_split (λ x. x == octet) text ≡ front ∷ slice_split (λ x. x == octet) back
split_some octet text front back e =
    let is = cut_some octet text front back e in
    rw is.parts (slice_split_at (λ x. x == octet) front octet back is.first (eq-eqb octet octet refl))

pub split_none : (octet : ℕ) (text : List ℕ) → cut octet text ≡ None → slice_split (λ x. x == octet) text ≡ text ∷ []
split_none octet text e = slice_split_none (λ x. x == octet) text (cut_none octet text e)

-- the two parts and the octet between
pub cut_length : (octet : ℕ) (text front back : List ℕ) → cut octet text ≡ Some (front, back) → length text ≡ length front + length back + 1
cut_length octet text front back e =
    ap length (cut_some octet text front back e).parts ∙ length-append front (octet ∷ back) ∙ omega arith
