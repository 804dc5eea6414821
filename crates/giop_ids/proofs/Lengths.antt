-- How many entries a map by id has: no more than the ids that it may have.
use Rattle.std.proofs.Common.{◌≡◌, ℕ, ◌+◌, ◌-◌, ◌≤◌, ◌==◌, Bool, true, false, cond, ◌||◌, List, [], ◌∷◌, length, Option, Some, None, is_some, refl, sym, ap, ◌∙◌, arith}
use Rattle.std.proofs.lemmas.Bool.Decides.{nat_tests}
use Rattle.std.proofs.lemmas.List.{length-map}
use Rattle.std.specs.List.{list_any}
use Rattle.std.specs.Ordering.{nat_cmp, eq_by_cmp}
use Rattle.std.specs.Cmp.{nat_cmp_total, unsigned_tied}
use Rattle.std.specs.FinMap as finite
use Rattle.std.specs.FinMap.{len-entries, len-empty, len-remove, contains_key-keys}
use Rattle.giop_ids.specs.declared.addressed.Addressed.{Addressed}
use Rattle.giop_ids.specs.ById.{ById, put, is_listed, ids_of, HasOnly, AddressesOnly}
use Rattle.giop_ids.proofs.Puts.{get-put, same_tables, eq_itself}

-- a map has no entry where each id has none
no_entries : {V : Type 0} (m : ById V) → ((id : ℕ) → finite.get m id ≡ None) → finite.len m ≡ 0
no_entries {V} m none =
    ap finite.len (same_tables m (finite.empty {X = V} {R = nat_cmp}) (λ id. none id ∙ sym (finite.get-empty nat_cmp id))) ∙ len-empty nat_cmp V

not_some : {V : Type 0} (held : Option V) → (is_some held ≡ true → false ≡ true) → held ≡ None
not_some None never = refl
not_some (Some v) never = let wrong = never refl in absurd cc

-- one id less is at most one entry less
fewer : {V : Type 0} (m : ById V) (id : ℕ) → finite.len m ≤ finite.len (put m id None) + 1
fewer m id = by_there (is_some (finite.get m id)) (len-remove nat_cmp_total m id)
  where
    by_there : (there : Bool) → finite.len (put m id None) ≡ cond there (finite.len m - 1) (finite.len m) → finite.len m ≤ finite.len (put m id None) + 1
    by_there true e = omega arith
    by_there false e = omega arith

-- a map has no more entries than a list has ids in which each of its own stands
pub len_within_ids : {V : Type 0} (ids : List ℕ) (m : ById V) → HasOnly m ids → finite.len m ≤ length ids
len_within_ids [] m only = let none = no_entries m (λ id. not_some (finite.get m id) (only id)) in omega arith
len_within_ids (first ∷ ids) m only =
    let rest = len_within_ids ids (put m first None) (λ id there. others id there) in
    let one = fewer m first in
    omega arith
  where
    others : (id : ℕ) → is_some (finite.get (put m first None) id) ≡ true → is_listed ids id ≡ true
    others id there =
        elim (id == first) as (λ b. (id == first) ≡ b → is_listed ids id ≡ true) [
          | true ↦ λ e.
              let gone : is_some (finite.get (put m first None) id) ≡ false =
              ap is_some (get-put m first None id ∙ ap (λ b. cond b None (finite.get m id)) e) in
              absurd cc
          | false ↦ λ e.
              let kept : is_some (finite.get m id) ≡ true =
              sym (ap is_some (get-put m first None id ∙ ap (λ b. cond b None (finite.get m id)) e)) ∙ there in
              let listed : (first == id || is_listed ids id) ≡ true = only id kept in
              let apart : (first == id) ≡ false = grind (arith, nat_tests) in
              sym (ap (λ b. b || is_listed ids id) apart) ∙ listed
        ] refl

-- an id of the map stands among its keys
listed_keys : {V : Type 0} (m : ById V) → HasOnly m (finite.keys m)
listed_keys m id there = same_test (finite.keys m) ∙ (sym (contains_key-keys m id) ∙ there)
  where
    same_test : (ids : List ℕ) → is_listed ids id ≡ list_any (eq_by_cmp nat_cmp id) ids
    same_test [] = refl
    same_test (first ∷ ids) =
        ap (λ b. b || is_listed ids id) (turned first ∙ sym (unsigned_tied id first)) ∙ ap (λ b. eq_by_cmp nat_cmp id first || b) (same_test ids)
      where
        turned : (other : ℕ) → (other == id) ≡ (id == other)
        turned other = grind (arith, nat_tests)

-- a map whose ids are all among another's has no more entries
pub len_within_other : {V W : Type 0} (m : ById V) (n : ById W)
    → ((id : ℕ) → is_some (finite.get m id) ≡ true → is_some (finite.get n id) ≡ true) → finite.len m ≤ finite.len n
len_within_other m n among =
    let most = len_within_ids (finite.keys n) m (λ id there. listed_keys n id (among id there)) in
    let keys = length-map (finite.entries n) (λ e. e.0) in
    let all = len-entries n in
    omega arith

-- what is put stands under a listed id
pub HasOnly-put : {V : Type 0} (m : ById V) (ids : List ℕ) (id : ℕ) (held : Option V)
    → HasOnly m ids → is_listed ids id ≡ true → HasOnly (put m id held) ids
HasOnly-put m ids id held only listed q there =
    elim (q == id) as (λ b. (q == id) ≡ b → is_listed ids q ≡ true) [
      | true ↦ λ e. let same : id ≡ q = grind (arith, nat_tests) in ap (is_listed ids) (sym same) ∙ listed
      | false ↦ λ e. only q (sym (ap is_some (get-put m id held q ∙ ap (λ b. cond b held (finite.get m q)) e)) ∙ there)
    ] refl

-- a map of no entries has only the ids of any list
pub HasOnly-empty : (V : Type 0) (ids : List ℕ) → HasOnly (finite.empty {X = V} {R = nat_cmp}) ids
HasOnly-empty V ids id there =
    let none : is_some (finite.get (finite.empty {X = V} {R = nat_cmp}) id) ≡ false = ap is_some (finite.get-empty nat_cmp id) in absurd cc

-- the first of a list that is addressed, and the others
pub addresses_first : {X : Type 0} (one : Addressed X) (rest : List (Addressed X)) (ids : List ℕ)
    → AddressesOnly (one ∷ rest) ids → (is_listed ids one.id ≡ true) × AddressesOnly rest ids
addresses_first one rest ids only = (
  only one.id (ap (λ b. b || is_listed (ids_of rest) one.id) (eq_itself one.id)),
  λ id listed. only id (behind (one.id == id) listed),
)
  where
    behind : (b : Bool) {c : Bool} → c ≡ true → (b || c) ≡ true
    behind true e = refl
    behind false e = e
