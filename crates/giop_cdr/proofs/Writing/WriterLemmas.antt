-- Longer writings, step by step, and back again: for the crates above, which compose theirs of these.
use Rattle.std.proofs.Common.{◌≡◌, ℕ, ◌+◌, ◌<◌, ◌≤◌, List, [], ◌∷◌, ◌++◌, length, get_or, take, drop, refl, sym, ap, ◌∙◌, append_assoc, length-append, add-one, drop-cons, arith}
use Rattle.std.proofs.lemmas.List.{take_at, append-nil, drop_all}
use Rattle.giop_cdr.specs.Writing.Output.{Output, append, here, back_at, items_out}
use Rattle.giop_cdr.specs.Writing.Outcome.{Grows}

pub grows_not : (out : Output) → Grows out out
grows_not out = record { part = []; octets = sym (append-nil out.octets) }

pub grows_by : (out : Output) (octets : List ℕ) → Grows out (append out octets)
grows_by out octets = record { part = octets; octets = refl }

pub grows_then : (out mid done : Output) → Grows out mid → Grows mid done → Grows out done
grows_then out mid done one two = record {
  part = one.part ++ two.part;
  octets = two.octets ∙ (ap (λ (octets : List ℕ). octets ++ two.part) one.octets ∙ append_assoc out.octets one.part two.part);
}

pub taken_back : (old new : Output) → Grows old new → take (length old.octets) new.octets ≡ old.octets
taken_back old new g = ap (take (length old.octets)) g.octets ∙ take_at old.octets g.part (length old.octets) refl

-- a writing that is taken back leaves what was there
pub grown_back : (old new : Output) → Grows old new → back_at (here old) new ≡ old
grown_back old new g = rw (taken_back old new g) refl

pub grown_is_longer : (old new : Output) → Grows old new → length old.octets ≤ length new.octets
grown_is_longer old new g = omega (arith, ap length g.octets, length-append old.octets g.part)

-- ---- values that are written one after the other by a loop

-- a turn of the loop that wrote a value
pub item_written : {A : Type 0} (item : A → Output → Output) (xs : List A) (i : ℕ) (x : A) (out done : Output) → i < length xs
    → x ≡ get_or xs i x → items_out item (drop i xs) out ≡ done → items_out item (drop (i + 1) xs) (item x out) ≡ done
unfolding items_out
item_written {A} item xs i x out done there is so_far =
    let split : drop i xs ≡ x ∷ drop (i + 1) xs = rw add-one (drop-cons xs i x there ∙ rw (← is) refl) in
    sym (ap (λ (rest : List A). items_out item rest out) split) ∙ so_far

-- the loop is done
pub items_written : {A : Type 0} (item : A → Output → Output) (xs : List A) (i : ℕ) (out done : Output) → length xs ≤ i → items_out item (drop i xs) out ≡ done
    → out ≡ done
unfolding items_out
items_written {A} item xs i out done all so_far = sym (ap (λ (rest : List A). items_out item rest out) (drop_all i xs all)) ∙ so_far
