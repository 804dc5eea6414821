-- Values that lie one after the other, walked from the first one on.
use Rattle.std.proofs.Common.{◌≡◌, ℕ, zero, suc, ◌-◌, ◌<◌, Ok, Err, List, [], ◌∷◌, length, refl, ap, subst, ◌∙◌, arith}
use Rattle.std.specs.Prelude.{IsOk}
use Rattle.giop_cdr.specs.declared.fault.CdrFault.{CdrFault}
use Rattle.giop_cdr.specs.Reading.Cursor.{Cursor}
use Rattle.giop_cdr.specs.Reading.Values.{Reading, ◌>>=◌, past, items_at}
use Rattle.giop_cdr.specs.Reading.View.{values_in}

-- values that were passed over lie there
pub passed_lie : {A : Type 0} (r : Reading (List A)) (d : Cursor) → past r ≡ Ok d → IsOk r
passed_lie (Ok x) d h = refl
passed_lie (Err e) d h = absurd cc

-- and are the answer
pub passed_is : {A : Type 0} (r : Reading (List A)) (d : Cursor) → past r ≡ Ok d → r ≡ Ok (values_in r, d)
passed_is {A} (Ok x) d h =
    let same : x.1 ≡ d = cc in
    ap (λ (e : Cursor). Ok (x.0, e)) same
passed_is (Err e) d h = absurd cc

-- what is known of values of which the first is read
pub record Walked {A : Type 0} (item : Cursor → Reading A) (count : ℕ) (c : Cursor) (v : A) (d : Cursor) : Type 0 where
  pub rest : IsOk (items_at item (count - 1) d)
  pub values : values_in (items_at item count c) ≡ v ∷ values_in (items_at item (count - 1) d)

-- what was read, with one value in front
abbrev behind : {A : Type 0} → A → Reading (List A) → Reading (List A)
behind v r = r >>= λ others. Ok (v ∷ others.0, others.1)

behind_walks : {A : Type 0} (v : A) (r : Reading (List A)) → IsOk (behind v r) → IsOk r × (values_in (behind v r) ≡ v ∷ values_in r)
behind_walks v (Ok x) is = (refl, refl)
behind_walks v (Err e) is = absurd cc

pub walks : {A : Type 0} (item : Cursor → Reading A) (count : ℕ) (c : Cursor) (v : A) (d : Cursor)
    → 0 < count → IsOk (items_at item count c) → item c ≡ Ok (v, d) → Walked item count c v d
unfolding items_at
walks item zero c v d some is h = absurd (omega arith)
walks {A} item (suc n) c v d some is h =
    let one : items_at item (suc n) c ≡ behind v (items_at item n d) = rw h refl in
    let fewer : suc n - 1 ≡ n = omega arith in
    let parts = behind_walks v (items_at item n d) (subst (λ (r : Reading (List A)). IsOk r) one is) in
    record {
      rest = rw fewer parts.0;
      values = rw fewer (ap (λ (r : Reading (List A)). values_in r) one ∙ parts.1);
    }

no_value : {A : Type 0} (e : CdrFault) (r : Reading A) → r ≡ Err e → IsOk r → ⊥
no_value e (Ok x) h is = absurd cc
no_value e (Err d) h is = absurd cc

pub walks_not : {A : Type 0} (item : Cursor → Reading A) (count : ℕ) (c : Cursor) (e : CdrFault) → 0 < count → IsOk (items_at item count c) → item c ≡ Err e → ⊥
unfolding items_at
walks_not item zero c e some is h = absurd (omega arith)
walks_not item (suc n) c e some is h = no_value e (items_at item (suc n) c) (rw h refl) is

pub none_lie : {A : Type 0} (item : Cursor → Reading A) (c : Cursor) → values_in (items_at item 0 c) ≡ []
unfolding items_at
none_lie item c = refl

length-behind : {A : Type 0} (v : A) (r : Reading (List A)) (n : ℕ) → (IsOk r → length (values_in r) ≡ n) → IsOk (behind v r)
    → length (values_in (behind v r)) ≡ suc n
length-behind v (Ok x) n long is = ap suc (long refl)
length-behind v (Err e) n long is = absurd cc

abbrev from_first : {A : Type 0} → (Cursor → Reading A) → ℕ → Reading A → Reading (List A)
from_first item n r = r >>= λ first. behind first.0 (items_at item n first.1)

length-from_first : {A : Type 0} (item : Cursor → Reading A) (n : ℕ) (r : Reading A)
    → ((d : Cursor) → IsOk (items_at item n d) → length (values_in (items_at item n d)) ≡ n)
    → IsOk (from_first item n r) → length (values_in (from_first item n r)) ≡ suc n
length-from_first item n (Ok x) long is = length-behind x.0 (items_at item n x.1) n (long x.1) is
length-from_first item n (Err e) long is = absurd cc

-- they are as many as were counted
pub length-lying : {A : Type 0} (item : Cursor → Reading A) (count : ℕ) (c : Cursor) → IsOk (items_at item count c)
    → length (values_in (items_at item count c)) ≡ count
unfolding items_at
length-lying item zero c is = refl
length-lying item (suc n) c is = length-from_first item n (item c) (λ d. length-lying item n d) is
