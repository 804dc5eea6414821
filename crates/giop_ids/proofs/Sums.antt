-- What all values of a map weigh, after one of them has changed.
use Rattle.std.proofs.Common.{◌≡◌, ℕ, ◌+◌, ◌*◌, ◌≤◌, List, [], ◌∷◌, length, sum_by, Option, Some, None, refl, sym, ap, ◌∙◌, arith}
use Rattle.std.proofs.Common as common
use Rattle.std.proofs.lemmas.List.Sums.{sum_by-cons}
use Rattle.std.specs.declared.cmp.Ordering.TheVariants.{Less, Equal, Greater}
use Rattle.std.specs.Ordering.{nat_cmp}
use Rattle.std.specs.Cmp.{nat_cmp_total}
use Rattle.std.specs.FinMap as finite
use Rattle.std.specs.FinMap.{get-entries, entries-insert, len-empty, len-entries}
use Rattle.giop_ids.specs.ById.{ById, put, weight_in, sum_of}
use Rattle.giop_ids.proofs.Puts.{put-put, put_same, put_absent, get-put_same}

module _ {V : Type 0} (weight : V → ℕ) where
  sum_entries : List (ℕ × V) → ℕ
  sum_entries es = sum_by weight (common.map (λ e. e.1) es)

  sum_entries-cons : (e : ℕ × V) (es : List (ℕ × V)) → sum_entries (e ∷ es) ≡ weight e.1 + sum_entries es
  unfolding sum_entries
  sum_entries-cons e es = sum_by-cons weight e.1 (common.map (λ f. f.1) es)

  sum_entries-nil : sum_entries [] ≡ 0
  unfolding sum_entries
  sum_entries-nil = refl

  -- an entry under a key that isn't there is one more term
  sum_entries-put : (id : ℕ) (v : V) (es : List (ℕ × V)) → finite.find nat_cmp id es ≡ None
      → sum_entries (finite.put nat_cmp id v es) ≡ weight v + sum_entries es
  sum_entries-put id v [] none = sum_entries-cons (id, v) []
  sum_entries-put id v (e ∷ es) none =
      elim (nat_cmp id e.0) as (λ r. nat_cmp id e.0 ≡ r
      → sum_entries (finite.put nat_cmp id v (e ∷ es)) ≡ weight v + sum_entries (e ∷ es)) [
        | Less ↦ λ is. rw is (sum_entries-cons (id, v) (e ∷ es))
        | Equal ↦ λ is. let there : Some e.1 ≡ None = rw is at none in absurd cc
        | Greater ↦ λ is.
            let rest : finite.find nat_cmp id es ≡ None = rw is at none in
            let later = sum_entries-put id v es rest in
            let one = sum_entries-cons e es in
            let two = sum_entries-cons e (finite.put nat_cmp id v es) in
            rw is (omega arith)
      ] refl

  sum_of-entries : (m : ById V) → sum_of weight m ≡ sum_entries (finite.entries m)
  unfolding sum_entries sum_of
  sum_of-entries m = refl

  pub sum_empty : sum_of weight (finite.empty {X = V} {R = nat_cmp}) ≡ 0
  sum_empty =
      sum_of-entries finite.empty
      ∙ ap sum_entries (no_entries _ (sym (len-entries (finite.empty {X = V} {R = nat_cmp})) ∙ len-empty nat_cmp V))
      ∙ sum_entries-nil
    where
      no_entries : (es : List (ℕ × V)) → length es ≡ 0 → es ≡ []
      no_entries [] e = refl
      no_entries (x ∷ es) e = absurd (omega arith)

  -- a value under a new id adds its weight
  pub sum_insert : (m : ById V) (id : ℕ) (v : V) → finite.get m id ≡ None
      → sum_of weight (put m id (Some v)) ≡ sum_of weight m + weight v
  sum_insert m id v none =
      let sum = sum_entries-put id v (finite.entries m) (sym (get-entries m id) ∙ none) in
      let new = sum_of-entries (finite.insert m id v) ∙ ap sum_entries (entries-insert nat_cmp_total m id v) in
      let old = sum_of-entries m in
      omega arith

  -- what is put adds its weight, and what it replaces takes its own away
  pub sum_put : (m : ById V) (id : ℕ) (held : Option V)
      → sum_of weight (put m id held) + weight_in weight (finite.get m id) ≡ sum_of weight m + weight_in weight held
  sum_put m id held =
      let rest = put m id None in
      let new : sum_of weight (put m id held) ≡ sum_of weight rest + weight_in weight held =
      ap (sum_of weight) (sym (put-put m id None held)) ∙ onto rest held (get-put_same m id None) in
      let old : sum_of weight m ≡ sum_of weight rest + weight_in weight (finite.get m id) =
      ap (sum_of weight) (sym (put-put m id None (finite.get m id) ∙ put_same m id (finite.get m id) refl))
      ∙ onto rest (finite.get m id) (get-put_same m id None) in
      omega arith
    where
      onto : (n : ById V) (some : Option V) → finite.get n id ≡ None → sum_of weight (put n id some) ≡ sum_of weight n + weight_in weight some
      onto n None none = ap (sum_of weight) (put_absent n id none) ∙ omega arith
      onto n (Some v) none = sum_insert n id v none

  -- a value taken out takes its weight away
  pub sum_remove : (m : ById V) (id : ℕ) → sum_of weight (finite.remove m id) + weight_in weight (finite.get m id) ≡ sum_of weight m
  sum_remove m id = let gone = sum_put m id None in omega arith

  -- no value weighs more than all
  pub weight_within : (m : ById V) (id : ℕ) → weight_in weight (finite.get m id) ≤ sum_of weight m
  weight_within m id = let gone = sum_remove m id in omega arith

-- where each value weighs at most so much by one measure, all do by as much for each
pub sum_scaled : {V : Type 0} (one other : V → ℕ) (k c : ℕ) → ((v : V) → one v * k ≤ other v + c) → (m : ById V)
    → sum_of one m * k ≤ sum_of other m + finite.len m * c
sum_scaled {V} one other k c each m =
    let by_entries = over (finite.entries m) in
    let first = ap (λ n. n * k) (sum_of-entries one m) in
    let second = sum_of-entries other m in
    let count = ap (λ n. n * c) (len-entries m) in
    omega arith
  where
    over : (es : List (ℕ × V)) → sum_entries one es * k ≤ sum_entries other es + length es * c
    over [] =
        let none = ap (λ n. n * k) (sum_entries-nil one) in omega arith
    over (e ∷ es) =
        let rest = over es in
        let here = each e.1 in
        let left = ap (λ n. n * k) (sum_entries-cons one e es) in
        let right = sum_entries-cons other e es in
        grind arith
