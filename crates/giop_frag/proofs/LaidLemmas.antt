-- The octets that lie in blocks, one behind the other, and their runs.
use Rattle.std.proofs.Common.{min, ◌≡◌, ℕ, zero, suc, ◌+◌, ◌-◌, ◌*◌, ◌/◌, ◌%◌, ◌≤◌, ◌<◌, List, [], ◌∷◌, ◌++◌, length, take, drop, get_or, refl, sym, ap, ◌∙◌, arith, append_assoc, zero-add, add-zero, length-append, length-drop, lit<}
use Rattle.std.proofs.lemmas.List.{length-take-le, take-append-le, take-take, drop-take, drop-append-le, get_or-take, get_or-drop, length-take}
use Rattle.std.proofs.lemmas.Nat.{div-add-mod'}
use Rattle.std.proofs.Math.Nat.{mod-lt}
use Rattle.std.proofs.Math.Seq.{take-add, drop-append-add}
use Rattle.giop_frag.specs.Blocks.{block, laid, octets_at, times, AreWhole, AreApart, AreChained}
use Rattle.giop_frag.proofs.CountLemmas.{times_at, named, times_first, rest_apart}

-- so many blocks have 512 octets each
pub length-laid : (blocks : List (List ℕ)) (numbers : List ℕ) → AreWhole blocks → AreApart blocks numbers
    → length (laid blocks numbers) ≡ 512 * length numbers
length-laid blocks [] whole apart = refl
length-laid blocks (n ∷ numbers) whole apart =
    let first = times_first n numbers in
    let here = whole.whole n (named (n ∷ numbers) blocks n apart (omega arith)) in
    let rest = length-laid blocks numbers whole (rest_apart blocks n numbers apart) in
    let both = length-append (block blocks n) (laid blocks numbers) in
    omega arith

-- there are as many octets as is said
pub length-chained : (blocks : List (List ℕ)) (numbers : List ℕ) (size : ℕ) → AreChained blocks numbers size
    → length (octets_at blocks numbers size) ≡ size
length-chained blocks numbers size chained =
    let all = length-laid blocks numbers chained.whole chained.apart in
    let within = chained.within in
    length-take-le size (laid blocks numbers) (omega arith)

-- what lies at a place in a block lies there among all
laid_part : (blocks : List (List ℕ)) (numbers : List ℕ) (q r n : ℕ) → AreWhole blocks → AreApart blocks numbers
    → q < length numbers → r + n ≤ 512
    → take n (drop (512 * q + r) (laid blocks numbers)) ≡ take n (drop r (block blocks (get_or numbers q 0)))
laid_part blocks [] q r n whole apart within room = absurd (omega arith)
laid_part blocks (m ∷ numbers) zero r n whole apart within room =
    let first = times_first m numbers in
    let is = whole.whole m (named (m ∷ numbers) blocks m apart (omega arith)) in
    let left = length-drop r (block blocks m) in
    ap (λ k. take n (drop k (block blocks m ++ laid blocks numbers))) (zero-add r)
    ∙ ap (take n) (drop-append-le r (block blocks m) (laid blocks numbers) (omega arith))
    ∙ take-append-le n (drop r (block blocks m)) (laid blocks numbers) (omega arith)
laid_part blocks (m ∷ numbers) (suc q) r n whole apart within room =
    let first = times_first m numbers in
    let is = whole.whole m (named (m ∷ numbers) blocks m apart (omega arith)) in
    let place : 512 * suc q + r ≡ length (block blocks m) + (512 * q + r) = omega arith in
    ap (λ k. take n (drop k (block blocks m ++ laid blocks numbers))) place
    ∙ ap (take n) (drop-append-add (block blocks m) (laid blocks numbers) (512 * q + r))
    ∙ laid_part blocks numbers q r n whole (rest_apart blocks m numbers apart) (omega arith) room

-- the rest of a block, as far as octets go, lies together
pub run_part : (blocks : List (List ℕ)) (numbers run : List ℕ) (size from end : ℕ) → AreChained blocks numbers size
    → from < size → end ≡ min (from % 512 + (size - from)) 512
    → run ≡ take (end - from % 512) (drop (from % 512) (block blocks (get_or numbers (from / 512) 0)))
    → (0 < length run) × (run ≡ take (length run) (drop from (octets_at blocks numbers size)))
run_part blocks numbers run size from end chained within is_end is =
    let parts = div-add-mod' from 512 in
    let rest = mod-lt from {m = 512} (lit< tt) in
    let all = chained.within in
    let lies : from / 512 < length numbers = omega arith in
    let there = named numbers blocks (get_or numbers (from / 512) 0) chained.apart (times_at numbers (from / 512) lies) in
    let whole = chained.whole.whole (get_or numbers (from / 512) 0) there in
    let left = length-drop (from % 512) (block blocks (get_or numbers (from / 512) 0)) in
    let n = end - from % 512 in
    let size_of : length run ≡ n = ap length is ∙ length-take-le n (drop (from % 512) (block blocks (get_or numbers (from / 512) 0))) (omega arith) in
    let start : 512 * (from / 512) + from % 512 ≡ from = omega arith in
    let size_is : from + (size - from) ≡ size = omega arith in
    let part = laid_part blocks numbers (from / 512) (from % 512) n chained.whole chained.apart lies (omega arith) in (
      omega arith,
      is ∙ sym part ∙ ap (λ k. take n (drop k (laid blocks numbers))) start
          ∙ sym (take-take n (size - from) (drop from (laid blocks numbers)) (omega arith))
          ∙ ap (take n) (sym (drop-take from (size - from) (laid blocks numbers)))
          ∙ ap (λ k. take n (drop from (take k (laid blocks numbers)))) size_is
          ∙ ap (λ k. take k (drop from (octets_at blocks numbers size))) (sym size_of),
    )

-- the first octet of a run is the one at its place
pub run_first : (l run : List ℕ) (from : ℕ) → 0 < length run → run ≡ take (length run) (drop from l)
    → get_or run 0 0 ≡ get_or l from 0
run_first l run from some is =
    ap (λ r. get_or r 0 0) is ∙ get_or-take (length run) (drop from l) 0 0 some ∙ get_or-drop from l 0 0 ∙ ap (λ k. get_or l k 0) (add-zero from)

-- a run behind the octets before it
pub run_more : (l copy run : List ℕ) → copy ≡ take (length copy) l → run ≡ take (length run) (drop (length copy) l)
    → (copy ++ run ≡ take (length (copy ++ run)) l) × (length (copy ++ run) ≤ length l)
run_more l copy run copied is =
    let both = length-append copy run in
    let first = ap length copied ∙ length-take (length copy) l in
    let rest = ap length is ∙ length-take (length run) (drop (length copy) l) in
    let left = length-drop (length copy) l in (
      ap (λ c. c ++ run) copied ∙ ap (λ r. take (length copy) l ++ r) is ∙ sym (take-add (length copy) (length run) l)
          ∙ ap (λ k. take k l) (sym both),
      omega arith,
    )

-- numbers that name the same octets as before
pub laid_same : (old new : List (List ℕ)) (numbers : List ℕ) → ((n : ℕ) → 1 ≤ times n numbers → block new n ≡ block old n)
    → laid new numbers ≡ laid old numbers
laid_same old new [] same = refl
laid_same old new (n ∷ numbers) same =
    let first = times_first n numbers in
    ap (λ b. b ++ laid new numbers) (same n (omega arith))
    ∙ ap (λ l. block old n ++ l) (laid_same old new numbers (λ m stands. same m (omega arith)))

pub laid-append : (blocks : List (List ℕ)) (one two : List ℕ) → laid blocks (one ++ two) ≡ laid blocks one ++ laid blocks two
laid-append blocks [] two = refl
laid-append blocks (n ∷ one) two =
    ap (λ l. block blocks n ++ l) (laid-append blocks one two) ∙ sym (append_assoc (block blocks n) (laid blocks one) (laid blocks two))

-- numbers joined to a list's leave its octets
pub octets_at-append : (blocks : List (List ℕ)) (one two : List ℕ) (size : ℕ) → AreChained blocks one size
    → octets_at blocks (one ++ two) size ≡ octets_at blocks one size
octets_at-append blocks one two size chained =
    let all = length-laid blocks one chained.whole chained.apart in
    let within = chained.within in
    ap (take size) (laid-append blocks one two) ∙ take-append-le size (laid blocks one) (laid blocks two) (omega arith)

-- the block that a place of the octets lies in is there
pub named_at : (blocks : List (List ℕ)) (numbers : List ℕ) (size place : ℕ) → AreChained blocks numbers size → place < size
    → (place / 512 < length numbers) × (get_or numbers (place / 512) 0 < length blocks)
named_at blocks numbers size place chained within =
    let parts = div-add-mod' place 512 in
    let all = chained.within in
    let lies : place / 512 < length numbers = omega arith in
    (lies, named numbers blocks (get_or numbers (place / 512) 0) chained.apart (times_at numbers (place / 512) lies))
