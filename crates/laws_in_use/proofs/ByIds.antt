-- What is said of the ids 7 and 9 and of no other, by cases on an id.
use Rattle.std.proofs.Common.{◌≡◌, ℕ, ◌==◌, Bool, true, false, if◌then◌else◌, List, [], ◌∷◌, refl, sym, subst, arith}
use Rattle.std.proofs.lemmas.Bool.Decides.{nat_tests}

-- those of an id, where this one is
abbrev pub if_is : {E : Type 0} → Bool → E → List E → List E
if_is is e events = if is then e ∷ events else events

-- no id is both
pub apart : (id : ℕ) → (id == 7) ≡ true → (id == 9) ≡ true → ⊥
apart id seven nine = grind (arith, nat_tests)

module _ {I E : Type 0} (Carries : List I → List E → Type 0) (seven nine : List I) (events : Bool → Bool → List E)
    (of_seven : Carries seven (events true false)) (of_nine : Carries nine (events false true)) (of_none : Carries [] (events false false)) where
  by_tests : (is_seven is_nine : Bool) → (is_seven ≡ true → is_nine ≡ true → ⊥)
      → Carries (if is_seven then seven else if is_nine then nine else []) (events is_seven is_nine)
  by_tests true true not_both = absurd (not_both refl refl)
  by_tests true false not_both = of_seven
  by_tests false true not_both = of_nine
  by_tests false false not_both = of_none

  -- what is said of an id is carried by its own events
  pub by_id : (own : ℕ → List E) → ((id : ℕ) → own id ≡ events (id == 7) (id == 9)) → (id : ℕ)
      → Carries (if id == 7 then seven else if id == 9 then nine else []) (own id)
  by_id own are id =
      subst (Carries (if id == 7 then seven else if id == 9 then nine else [])) (sym (are id))
      (by_tests (id == 7) (id == 9) (apart id))
