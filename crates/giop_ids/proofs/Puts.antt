-- What `put` does to a finite map: what stands under each id, and how two of them join.
use Rattle.std.proofs.Common.{◌≡◌, ◌≢◌, ℕ, ◌+◌, ◌-◌, ◌≤◌, ◌==◌, Bool, true, false, cond, Option, Some, None, is_some, refl, sym, ap, ◌∙◌, arith}
use Rattle.std.proofs.lemmas.Bool.Decides.{nat_tests}
use Rattle.std.specs.Ordering.{nat_cmp, eq_by_cmp}
use Rattle.std.specs.Cmp.{nat_cmp_total, unsigned_tied}
use Rattle.std.specs.FinMap as map
use Rattle.std.specs.FinMap.{get-insert, get-remove, len-insert, len-remove, same_map, nat_cmp-IsAntisymmetric}
use Rattle.giop_ids.specs.ById.{ById, put}

-- two tables that tell the same of each id are equal
pub same_tables : {V : Type 0} (m n : ById V) → ((id : ℕ) → map.get m id ≡ map.get n id) → m ≡ n
same_tables m n same = same_map nat_cmp_total nat_cmp-IsAntisymmetric m n same

pub get-put_tied : {V : Type 0} (m : ById V) (id : ℕ) (entry : Option V) (q : ℕ)
    → map.get (put m id entry) q ≡ cond (eq_by_cmp nat_cmp q id) entry (map.get m q)
get-put_tied m id None q = get-remove nat_cmp_total m id q
get-put_tied m id (Some entry) q = get-insert nat_cmp_total m id entry q

-- under the id stands what was put, and under each other id what stood there
pub get-put : {V : Type 0} (m : ById V) (id : ℕ) (entry : Option V) (q : ℕ)
    → map.get (put m id entry) q ≡ cond (q == id) entry (map.get m q)
get-put m id entry q = get-put_tied m id entry q ∙ ap (λ b. cond b entry (map.get m q)) (unsigned_tied q id)

pub eq_itself : (n : ℕ) → (n == n) ≡ true
eq_itself n = grind (arith, nat_tests)

pub eq_apart : (m n : ℕ) → m ≢ n → (m == n) ≡ false
eq_apart m n apart = grind (arith, nat_tests)

pub get-put_same : {V : Type 0} (m : ById V) (id : ℕ) (entry : Option V) → map.get (put m id entry) id ≡ entry
get-put_same m id entry = get-put m id entry id ∙ ap (λ b. cond b entry (map.get m id)) (eq_itself id)

pub get-put_other : {V : Type 0} (m : ById V) (id : ℕ) (entry : Option V) (other : ℕ) → other ≢ id
    → map.get (put m id entry) other ≡ map.get m other
get-put_other m id entry other apart =
    get-put m id entry other ∙ ap (λ b. cond b entry (map.get m other)) (eq_apart other id apart)

-- of two entries under one id the later one stands
pub put-put : {V : Type 0} (m : ById V) (id : ℕ) (first second : Option V)
    → put (put m id first) id second ≡ put m id second
put-put m id first second = same_tables _ _ (λ q.
    get-put (put m id first) id second q
    ∙ ap (cond (q == id) second) (get-put m id first q)
    ∙ twice (q == id) second first (map.get m q)
    ∙ sym (get-put m id second q))
  where
    twice : {A : Type 0} (b : Bool) (x y z : A) → cond b x (cond b y z) ≡ cond b x z
    twice true x y z = refl
    twice false x y z = refl

-- under two ids the order does not matter
pub put-put_other : {V : Type 0} (m : ById V) (id other : ℕ) (one two : Option V) → other ≢ id
    → put (put m id one) other two ≡ put (put m other two) id one
put-put_other m id other one two apart = same_tables _ _ (λ q.
    get-put (put m id one) other two q
    ∙ ap (cond (q == other) two) (get-put m id one q)
    ∙ crossed (q == other) (q == id) two one (map.get m q) (λ a b. apart (grind (arith, nat_tests)))
    ∙ ap (cond (q == id) one) (sym (get-put m other two q))
    ∙ sym (get-put (put m other two) id one q))
  where
    crossed : {A : Type 0} (a b : Bool) (x y z : A) → (a ≡ true → b ≡ true → ⊥)
        → cond a x (cond b y z) ≡ cond b y (cond a x z)
    crossed true true x y z apart = absurd (apart refl refl)
    crossed true false x y z apart = refl
    crossed false b x y z apart = refl

-- what stands there already changes nothing
pub put_same : {V : Type 0} (m : ById V) (id : ℕ) (entry : Option V) → map.get m id ≡ entry → put m id entry ≡ m
put_same m id entry found = same_tables _ _ (λ q.
    get-put m id entry q ∙ stays (q == id) q (λ same. ap (map.get m) (grind (arith, nat_tests)) ∙ found))
  where
    stays : (b : Bool) (q : ℕ) → (b ≡ true → map.get m q ≡ entry) → cond b entry (map.get m q) ≡ map.get m q
    stays true q same = sym (same refl)
    stays false q same = refl

-- to take out what isn't there changes nothing
pub put_absent : {V : Type 0} (m : ById V) (id : ℕ) → map.get m id ≡ None → put m id None ≡ m
put_absent m id absent = put_same m id None absent

-- an entry under a new id is one more
pub len-put_new : {V : Type 0} (m : ById V) (id : ℕ) (entry : V) → map.get m id ≡ None
    → map.len (put m id (Some entry)) ≡ map.len m + 1
len-put_new m id entry absent =
    len-insert nat_cmp_total m id entry ∙ ap (λ found. cond (is_some found) (map.len m) (map.len m + 1)) absent

-- an entry in another's place leaves the number
pub len-put_old : {V : Type 0} (m : ById V) (id : ℕ) (old entry : V) → map.get m id ≡ Some old
    → map.len (put m id (Some entry)) ≡ map.len m
len-put_old m id old entry found =
    len-insert nat_cmp_total m id entry ∙ ap (λ there. cond (is_some there) (map.len m) (map.len m + 1)) found

-- an entry taken out is one less
pub len-put_none : {V : Type 0} (m : ById V) (id : ℕ) (old : V) → map.get m id ≡ Some old
    → map.len (put m id None) ≡ map.len m - 1
len-put_none m id old found =
    len-remove nat_cmp_total m id ∙ ap (λ there. cond (is_some there) (map.len m - 1) (map.len m)) found

-- there is at most one entry more
pub len-put_within : {V : Type 0} (m : ById V) (id : ℕ) (entry : Option V)
    → map.len (put m id entry) ≤ map.len m + 1
len-put_within m id None = fewer (is_some (map.get m id)) (len-remove nat_cmp_total m id)
  where
    fewer : (there : Bool) → map.len (put m id None) ≡ cond there (map.len m - 1) (map.len m)
        → map.len (put m id None) ≤ map.len m + 1
    fewer true e = omega arith
    fewer false e = omega arith
len-put_within m id (Some entry) = more (is_some (map.get m id)) (len-insert nat_cmp_total m id entry)
  where
    more : (there : Bool) → map.len (put m id (Some entry)) ≡ cond there (map.len m) (map.len m + 1)
        → map.len (put m id (Some entry)) ≤ map.len m + 1
    more true e = omega arith
    more false e = omega arith
