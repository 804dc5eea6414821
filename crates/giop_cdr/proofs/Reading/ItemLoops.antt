-- Values that are read, or passed over, one after the other by a loop over their count.
use Rattle.std.proofs.Common.{◌≡◌, ℕ, suc, ◌+◌, ◌-◌, ◌<◌, ◌≤◌, Ok, Err, List, [], ◌∷◌, ◌++◌, refl, sym, ap, ◌∙◌, append_assoc, arith}
use Rattle.std.proofs.lemmas.List.{append-nil}
use Rattle.giop_cdr.specs.declared.fault.CdrFault.{CdrFault}
use Rattle.giop_cdr.specs.Reading.Cursor.{Cursor}
use Rattle.giop_cdr.specs.Reading.Values.{Reading, ◌>>=◌, past, items_at}

-- what was read before, and what is still read
abbrev pub with_front : {A : Type 0} → List A → Reading (List A) → Reading (List A)
with_front front read = read >>= λ x. Ok (front ++ x.0, x.1)

pub regroup : {A : Type 0} (front : List A) (v : A) (read : Reading (List A))
    → with_front front (read >>= λ x. Ok (v ∷ x.0, x.1)) ≡ with_front (front ++ v ∷ []) read
regroup {A} front v (Ok x) = ap (λ (vs : List A). Ok (vs, x.1)) (simp append_assoc)
regroup front v (Err e) = refl

-- a turn of the loop that read a value
pub goes_on : {A : Type 0} (item : Cursor → Reading A) (front : List A) (count i : ℕ) (c : Cursor) (v : A) (d : Cursor) (total : Reading (List A))
    → i < count → item c ≡ Ok (v, d) → with_front front (items_at item (count - i) c) ≡ total
    → with_front (front ++ v ∷ []) (items_at item (count - (i + 1)) d) ≡ total
unfolding items_at
goes_on item front count i c v d total lt h so_far =
    let k : count - i ≡ suc (count - (i + 1)) = omega arith in
    let one : with_front front (items_at item (count - i) c) ≡ with_front (front ++ v ∷ []) (items_at item (count - (i + 1)) d)
    = rw (k, h) (regroup front v (items_at item (count - (i + 1)) d)) in
    sym one ∙ so_far

-- a turn that was refused refuses all
pub ends : {A : Type 0} (item : Cursor → Reading A) (front : List A) (count i : ℕ) (c : Cursor) (e : CdrFault) (total : Reading (List A))
    → i < count → item c ≡ Err e → with_front front (items_at item (count - i) c) ≡ total → total ≡ Err e
unfolding items_at
ends item front count i c e total lt h so_far =
    let k : count - i ≡ suc (count - (i + 1)) = omega arith in
    let one : with_front front (items_at item (count - i) c) ≡ Err e = rw (k, h) refl in
    sym so_far ∙ one

-- the loop is done
pub is_done : {A : Type 0} (item : Cursor → Reading A) (front : List A) (count i : ℕ) (c : Cursor) (total : Reading (List A))
    → count ≤ i → with_front front (items_at item (count - i) c) ≡ total → total ≡ Ok (front, c)
unfolding items_at
is_done {A} item front count i c total le so_far =
    let k : count - i ≡ 0 = omega arith in
    let one : with_front front (items_at item (count - i) c) ≡ Ok (front, c) = rw k (ap (λ (vs : List A). Ok (vs, c)) (append-nil front)) in
    sym so_far ∙ one

-- ---- passing over

past_regroup : {A : Type 0} (v : A) (read : Reading (List A)) → past (read >>= λ x. Ok (v ∷ x.0, x.1)) ≡ past read
past_regroup v (Ok x) = refl
past_regroup v (Err e) = refl

past_next : {A : Type 0} (item : Cursor → Reading A) (n : ℕ) (d : Cursor) (r : Reading A) → past r ≡ Ok d
    → past (r >>= λ first. items_at item n first.1 >>= λ others. Ok (first.0 ∷ others.0, others.1)) ≡ past (items_at item n d)
past_next item n d (Ok x) h =
    let same : x.1 ≡ d = cc in
    rw (← same) (past_regroup x.0 (items_at item n x.1))
past_next item n d (Err e) h = absurd cc

pub skips_on : {A : Type 0} (item : Cursor → Reading A) (count i : ℕ) (c d : Cursor) (total : Reading (List A))
    → i < count → past (item c) ≡ Ok d → past (items_at item (count - i) c) ≡ past total → past (items_at item (count - (i + 1)) d) ≡ past total
unfolding items_at
skips_on item count i c d total lt h so_far =
    let k : count - i ≡ suc (count - (i + 1)) = omega arith in
    let one : past (items_at item (count - i) c) ≡ past (items_at item (count - (i + 1)) d)
    = rw k (past_next item (count - (i + 1)) d (item c) h) in
    sym one ∙ so_far

past_fails : {A : Type 0} (r : Reading A) (e : CdrFault) → past r ≡ Err e → r ≡ Err e
past_fails (Ok x) e h = absurd cc
past_fails (Err d) e h = cc

pub skips_end : {A : Type 0} (item : Cursor → Reading A) (count i : ℕ) (c : Cursor) (e : CdrFault) (total : Reading (List A))
    → i < count → item c ≡ Err e → past (items_at item (count - i) c) ≡ past total → total ≡ Err e
unfolding items_at
skips_end item count i c e total lt h so_far =
    let k : count - i ≡ suc (count - (i + 1)) = omega arith in
    let one : past (items_at item (count - i) c) ≡ Err e = rw (k, h) refl in
    past_fails total e (sym so_far ∙ one)

pub skips_done : {A : Type 0} (item : Cursor → Reading A) (count i : ℕ) (c : Cursor) (total : Reading (List A))
    → count ≤ i → past (items_at item (count - i) c) ≡ past total → past total ≡ Ok c
unfolding items_at
skips_done item count i c total le so_far =
    let k : count - i ≡ 0 = omega arith in
    let one : past (items_at item (count - i) c) ≡ Ok c = rw k refl in
    sym so_far ∙ one
