-- Copies of what lies together, made from the front.
use Rattle.std.proofs.Common.{◌≡◌, ℕ, ◌+◌, ◌-◌, ◌<◌, ◌≤◌, ◌==◌, Bool, true, false, not, ◌&&◌, ◌||◌, List, [], ◌∷◌, ◌++◌, length, get_or, set, take, drop, refl, ap, ◌∙◌, sym, add-one, length-take, arith}
use Rattle.std.proofs.Math.Seq.{take-suc-set, take-suc, take-add, take-length}
use Rattle.std.proofs.lemmas.List.{drop-drop, drop-take, take-take, length-take-le, get_or-take}
use Rattle.std.proofs.lemmas.List.Folds.{list_any-append}
use Rattle.giop_cdr.specs.Reading.Values.{has_null, is_text}

-- one octet more is copied
pub take-set_next : (a b : List ℕ) (i x : ℕ) → i < length a → i < length b → take i a ≡ take i b → x ≡ get_or b i 0
    → take (i + 1) (set a i x) ≡ take (i + 1) b
take-set_next a b i x room there same is =
    rw (add-one, take-suc-set a i x room, take-suc b i 0 there, same, is)

-- a run that begins where a copy ends makes the copy longer
pub take-append_run : (l copy run : List ℕ) (from part : ℕ) → copy ≡ take (length copy) (drop from l)
    → run ≡ take (length run) (drop (from + length copy) l) → part ≤ length run
    → copy ++ take part run ≡ take (length copy + part) (drop from l)
take-append_run l copy run from part copied begins short =
    let there : take part run ≡ take part (drop (from + length copy) l)
    = ap (take part) begins ∙ take-take part (length run) (drop (from + length copy) l) short in
    sym (take-add (length copy) part (drop from l) ∙ rw (drop-drop (length copy) from l, ← there, ← copied) refl)

or_true : (a b : Bool) → b ≡ true → (a || b) ≡ true
or_true true b e = refl
or_true false b e = e

-- the part of a run that is looked at
pub part_of_run : (l run : List ℕ) (from done part : ℕ) → run ≡ take (length run) (drop (from + done) l) → part ≤ length run
    → take part run ≡ take part (drop done (drop from l))
part_of_run l run from done part begins short =
    rw (drop-drop done from l) (ap (take part) begins ∙ take-take part (length run) (drop (from + done) l) short)

has_null-take_add : (octets : List ℕ) (n m : ℕ) → has_null (take (n + m) octets) ≡ (has_null (take n octets) || has_null (take m (drop n octets)))
has_null-take_add octets n m = rw (take-add n m octets) (list_any-append (λ octet. octet == 0) (take n octets) (take m (drop n octets)))

pub no_null_yet : (octets : List ℕ) (n m : ℕ) → has_null (take n octets) ≡ false → has_null (take m (drop n octets)) ≡ false
    → has_null (take (n + m) octets) ≡ false
no_null_yet octets n m before here = has_null-take_add octets n m ∙ rw (before, here) refl

pub null_is_among : (octets : List ℕ) (n m count : ℕ) → n + m ≤ count → has_null (take m (drop n octets)) ≡ true → has_null (take count octets) ≡ true
null_is_among octets n m count within here =
    let so_far : has_null (take (n + m) octets) ≡ true = has_null-take_add octets n m ∙ or_true (has_null (take n octets)) _ here in
    let split : count ≡ (n + m) + (count - (n + m)) = omega arith in
    rw split (has_null-take_add octets (n + m) (count - (n + m)) ∙ rw so_far refl)

pub is_text-last : (text : List ℕ) (last : ℕ) → length text ≡ last + 1 → is_text text ≡ ((get_or text last 0 == 0) && not (has_null (take last text)))
is_text-last [] last e = absurd (omega arith)
is_text-last (b ∷ bs) last e =
    let behind : length bs ≡ last = omega arith in
    rw behind refl

-- the last octet and those before it are what makes a text
pub is_text-take : (octets : List ℕ) (count last : ℕ) → count ≡ last + 1 → count ≤ length octets
    → is_text (take count octets) ≡ ((get_or octets last 0 == 0) && not (has_null (take last octets)))
is_text-take octets count last e within =
    let long : length (take count octets) ≡ last + 1 = length-take-le count octets within ∙ e in
    is_text-last (take count octets) last long
    ∙ rw (get_or-take count octets last 0 (omega arith), take-take last count octets (omega arith)) refl

-- a run of a part of a store, no longer than the part
pub run_of_part : (l run : List ℕ) (from count i part : ℕ) → run ≡ take (length run) (drop (from + i) l) → i < length (take count (drop from l))
    → part ≤ length run → part ≤ count - i
    → take part run ≡ take (length (take part run)) (drop i (take count (drop from l)))
run_of_part l run from count i part begins within short fits =
    let inside : i ≤ count = omega (arith, length-take count (drop from l)) in
    let split : count ≡ i + (count - i) = omega arith in
    let rest : drop i (take count (drop from l)) ≡ take (count - i) (drop (from + i) l)
    = ap (λ (n : ℕ). drop i (take n (drop from l))) split ∙ rw (drop-take i (count - i) (drop from l), drop-drop i from l) refl in
    let here : take part run ≡ take part (drop (from + i) l) = ap (take part) begins ∙ take-take part (length run) (drop (from + i) l) short in
    rw (length-take-le part run short, rest) (here ∙ sym (take-take part (count - i) (drop (from + i) l) fits))

-- a value behind padding, in the run that begins with the padding
pub field_of_run : (l run : List ℕ) (from skipped n : ℕ) → run ≡ take (length run) (drop from l) → skipped + n ≤ length run
    → take n (drop skipped run) ≡ take n (drop (from + skipped) l)
field_of_run l run from skipped n begins within =
    let split : length run ≡ skipped + (length run - skipped) = omega arith in
    let rest : drop skipped run ≡ take (length run - skipped) (drop (from + skipped) l)
    = ap (drop skipped) begins ∙ (ap (λ (m : ℕ). drop skipped (take m (drop from l))) split
    ∙ rw (drop-take skipped (length run - skipped) (drop from l), drop-drop skipped from l) refl) in
    ap (take n) rest ∙ take-take n (length run - skipped) (drop (from + skipped) l) (omega arith)

-- all octets of a list are the list
pub take_all : (octets : List ℕ) → take (length octets) octets ≡ octets
take_all octets = take-length octets
