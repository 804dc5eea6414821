-- Slots and the values that they show.
use Rattle.std.proofs.Common.{◌≡◌, ℕ, ◌≤◌, Bool, true, false, cond, List, [], ◌∷◌, length, map, Option, Some, None, refl, sym, ap, ◌∙◌, subst, arith, is_some, option_and_then}
use Rattle.std.proofs.lemmas.List.{length-map}
use Rattle.std.specs.declared.cmp.Ordering.{Ordering}
use Rattle.std.specs.Ordering.{nat_cmp, is_eq}
use Rattle.std.specs.declared.cmp.Ordering.TheVariants.{Less, Equal, Greater}
use Rattle.std.specs.Cmp.{nat_cmp_total, eq_by_cmp_equiv}
use Rattle.std.proofs.lemmas.Cmp.{tied_itself}
use Rattle.std.specs.FinMap as finite
use Rattle.std.specs.FinMap.{get-empty, len-empty, len-entries, entries-insert, nat_cmp-IsAntisymmetric}
use Rattle.std.specs.List.{AllByRecursion}
use Rattle.std.specs.List.Sorted.{IsStrictlySortedBy}
use Rattle.std.specs.Map.{lookup, keys_of}
use Rattle.std.specs.BTreeMap.{is_at}
use Rattle.std.proofs.lemmas.Map.Keys.{sorted_head, sorted_tail}
use Rattle.giop_ids.specs.ById.{ById, put}
use Rattle.giop_ids.specs.Slots.{entries_by, AreFull, Becomes}
use Rattle.giop_ids.proofs.Puts.{get-put_tied, len-put_within, same_tables}

-- an id below each slot's has none
lookup_below : {X : Type 0} (id : ℕ) (slots : List (ℕ × X)) → AllByRecursion (λ other. nat_cmp id other ≡ Less) (keys_of slots)
    → lookup (is_at (nat_cmp id)) slots ≡ None
lookup_below id [] below = refl
lookup_below id (slot ∷ slots) below =
    ap (λ r. cond (is_eq r) (Some slot.1) (lookup (is_at (nat_cmp id)) slots)) below.0 ∙ lookup_below id slots below.1

true_from_eq : (r : Ordering) → is_eq r ≡ true → r ≡ Equal
true_from_eq Less e = cc
true_from_eq Equal e = refl
true_from_eq Greater e = cc

-- a value under an id below all others stands first
keys-insert_first : {V : Type 0} (m : ById V) (id : ℕ) (v : V)
    → AllByRecursion (λ other. nat_cmp id other ≡ Less) (finite.keys m)
    → finite.keys (finite.insert m id v) ≡ id ∷ finite.keys m
keys-insert_first {V = V} m id v below =
    ap (map (λ e. e.0)) (entries-insert nat_cmp_total m id v) ∙ first (finite.entries m) below
  where
    first : (es : List (ℕ × V)) → AllByRecursion (λ other. nat_cmp id other ≡ Less) (map (λ e. e.0) es)
        → map (λ e. e.0) (finite.put nat_cmp id v es) ≡ id ∷ map (λ e. e.0) es
    first [] below = refl
    first (e ∷ es) below = rw below.0

no_keys : {A B : Type 0} (f : A → B) (xs : List A) → length xs ≡ 0 → map f xs ≡ []
no_keys f [] e = refl
no_keys f (x ∷ xs) e = absurd (omega arith)

module _ {X V : Type 0} (shown : X → Option V) where
  -- the value under an id is the one that its slot shows
  pub get_of : (slots : List (ℕ × X)) (id : ℕ)
      → finite.get (entries_by shown slots) id ≡ option_and_then shown (lookup (is_at (nat_cmp id)) slots)
  get_of [] id = get-empty nat_cmp id
  get_of (slot ∷ slots) id =
      get-put_tied (entries_by shown slots) slot.0 (shown slot.1) id
      ∙ ap (cond (is_at (nat_cmp id) slot.0) (shown slot.1)) (get_of slots id)
      ∙ inside (is_at (nat_cmp id) slot.0) slot.1 (lookup (is_at (nat_cmp id)) slots)
    where
      inside : (b : Bool) (x : X) (rest : Option X)
          → cond b (shown x) (option_and_then shown rest) ≡ option_and_then shown (cond b (Some x) rest)
      inside true x rest = refl
      inside false x rest = refl

  -- what a look-up among the slots gives shows the value under the id
  pub found_at : (slots : List (ℕ × X)) (id : ℕ) (slot : Option X)
      → lookup (is_at (nat_cmp id)) slots ≡ slot → finite.get (entries_by shown slots) id ≡ option_and_then shown slot
  found_at slots id slot found = get_of slots id ∙ ap (option_and_then shown) found

  -- slots that change at one id show the values with that one put
  pub one_put : (old new : List (ℕ × X)) (id : ℕ) (slot : Option X)
      → Becomes old new id slot → entries_by shown new ≡ put (entries_by shown old) id (option_and_then shown slot)
  one_put old new id slot becomes = same_tables _ _ (λ q.
      get_of new q
      ∙ ap (option_and_then shown) (becomes q)
      ∙ inside (is_at (nat_cmp id) q) (lookup (is_at (nat_cmp q)) old)
      ∙ ap (λ b. cond b (option_and_then shown slot) (option_and_then shown (lookup (is_at (nat_cmp q)) old))) ((eq_by_cmp_equiv nat_cmp_total).symm id q)
      ∙ ap (cond (is_at (nat_cmp q) id) (option_and_then shown slot)) (sym (get_of old q))
      ∙ sym (get-put_tied (entries_by shown old) id (option_and_then shown slot) q))
    where
      inside : (b : Bool) (rest : Option X)
          → option_and_then shown (cond b slot rest) ≡ cond b (option_and_then shown slot) (option_and_then shown rest)
      inside true rest = refl
      inside false rest = refl

  -- and each slot still shows one
  pub still_full : (old new : List (ℕ × X)) (id : ℕ) (slot : Option X)
      → Becomes old new id slot → ((x : X) → slot ≡ Some x → is_some (shown x) ≡ true) → AreFull shown old → AreFull shown new
  still_full old new id slot becomes shows full q x found =
      by_place (is_at (nat_cmp id) q) (sym (becomes q) ∙ found)
    where
      by_place : (b : Bool) → cond b slot (lookup (is_at (nat_cmp q)) old) ≡ Some x → is_some (shown x) ≡ true
      by_place true e = shows x e
      by_place false e = full q x e

  -- the slots after the first are full too
  tail_full : (slot : ℕ × X) (slots : List (ℕ × X))
      → IsStrictlySortedBy nat_cmp (keys_of (slot ∷ slots)) → AreFull shown (slot ∷ slots) → AreFull shown slots
  tail_full slot slots sorted full id x found =
      elim (is_at (nat_cmp id) slot.0) as (λ b. is_at (nat_cmp id) slot.0 ≡ b → is_some (shown x) ≡ true) [
        | true ↦ λ tied.
            let same : id ≡ slot.0 = nat_cmp-IsAntisymmetric id slot.0 (true_from_eq _ tied) in
            let none = lookup_below slot.0 slots (sorted_head nat_cmp slot.0 (keys_of slots) sorted) in
            let gone : lookup (is_at (nat_cmp id)) slots ≡ None = ap (λ k. lookup (is_at (nat_cmp k)) slots) same ∙ none in
            absurd cc
        | false ↦ λ apart. full id x (ap (λ b. cond b (Some slot.1) (lookup (is_at (nat_cmp id)) slots)) apart ∙ found)
      ] refl

  head_full : (slot : ℕ × X) (slots : List (ℕ × X)) → AreFull shown (slot ∷ slots) → is_some (shown slot.1) ≡ true
  head_full slot slots full =
      full slot.0 slot.1 (ap (λ r. cond (is_eq r) (Some slot.1) (lookup (is_at (nat_cmp slot.0)) slots)) (tied_itself nat_cmp_total slot.0))

  keys-put_first : (m : ById V) (id : ℕ) (held : Option V) → is_some held ≡ true
      → AllByRecursion (λ other. nat_cmp id other ≡ Less) (finite.keys m) → finite.keys (put m id held) ≡ id ∷ finite.keys m
  keys-put_first m id None some below = absurd cc
  keys-put_first m id (Some v) some below = keys-insert_first m id v below

  -- the ids of the values are those of the slots, in their order
  pub keys_are : (slots : List (ℕ × X)) → IsStrictlySortedBy nat_cmp (keys_of slots) → AreFull shown slots
      → finite.keys (entries_by shown slots) ≡ keys_of slots
  keys_are [] sorted full = no_keys _ _ (sym (len-entries (finite.empty {X = V} {R = nat_cmp})) ∙ len-empty nat_cmp V)
  keys_are (slot ∷ slots) sorted full =
      let rest = keys_are slots (sorted_tail nat_cmp slot.0 (keys_of slots) sorted) (tail_full slot slots sorted full) in
      let below = sorted_head nat_cmp slot.0 (keys_of slots) sorted in
      keys-put_first (entries_by shown slots) slot.0 (shown slot.1) (head_full slot slots full)
      (subst (AllByRecursion (λ other. nat_cmp slot.0 other ≡ Less)) (sym rest) below)
      ∙ ap (λ ids. slot.0 ∷ ids) rest

  -- there are as many values as slots
  pub len_of : (slots : List (ℕ × X)) → IsStrictlySortedBy nat_cmp (keys_of slots) → AreFull shown slots
      → finite.len (entries_by shown slots) ≡ length slots
  len_of slots sorted full =
      len-entries (entries_by shown slots) ∙ sym (length-map (finite.entries (entries_by shown slots)) (λ e. e.0))
      ∙ ap length (keys_are slots sorted full) ∙ length-map slots (λ e. e.0)

  -- there are no more values than slots
  pub len_within : (slots : List (ℕ × X)) → finite.len (entries_by shown slots) ≤ length slots
  len_within [] = let e = len-empty nat_cmp V in omega arith
  len_within (slot ∷ slots) =
      let rest = len_within slots in let one = len-put_within (entries_by shown slots) slot.0 (shown slot.1) in omega arith
