-- Blocks: how many stand where, and what is written into them.
use Rattle.std.proofs.Common.{min, ◌≡◌, ◌≢◌, ℕ, zero, suc, ◌+◌, ◌-◌, ◌*◌, ◌/◌, ◌%◌, ◌==◌, ◌≤◌, ◌<◌, nat_lt, Bool, true, false, cond, List, [], ◌∷◌, ◌++◌, length, take, drop, get_or, set, refl, sym, ap, ◌∙◌, arith, append_assoc, zero-add, take-append-drop, add-zero, length-append, length-drop, lit<}
use Rattle.std.proofs.lemmas.List.{get_or_append_left, get_or-set_same, get_or-set_other, length-set, length-take-le, take_at, take-append-le, take-take, drop-take, drop-append-le, get_or-take, get_or-drop, length-take}
use Rattle.std.proofs.lemmas.Bool.Decides.{nat_tests}
use Rattle.std.proofs.lemmas.Nat.{div-add-mod'}
use Rattle.std.proofs.Math.Nat.{mod-lt}
use Rattle.std.proofs.Math.Seq.{take-add, take-append-add, drop-append-add}
use Rattle.giop_frag.specs.Blocks.{Pooled, block, laid, octets_at, times, once, AreWhole, blank, made, HasGrown, AreApart, AreChained, AreWritten}

-- numbers stand in joined lists as often as in both
pub times-append : (n : ℕ) (one two : List ℕ) → times n (one ++ two) ≡ times n one + times n two
times-append n [] two = omega arith
times-append n (m ∷ one) two = let rest = times-append n one two in omega arith

-- the number at a place stands there
pub times_at : (numbers : List ℕ) (i : ℕ) → i < length numbers → 1 ≤ times (get_or numbers i 0) numbers
times_at [] i within = absurd (omega arith)
times_at (m ∷ numbers) zero within = let same : (m == m) ≡ true = grind (arith, nat_tests) in rw same (omega arith)
times_at (m ∷ numbers) (suc i) within = let rest = times_at numbers i (omega arith) in omega arith

-- a number that stands where each names a block is below their number
pub named : (numbers : List ℕ) (blocks : List (List ℕ)) (n : ℕ) → AreApart blocks numbers → 1 ≤ times n numbers → n < length blocks
named numbers blocks n apart stands =
    let most = apart.apart n in
    by_test (nat_lt n (length blocks)) (λ below. grind (arith, nat_tests)) (omega arith)
  where
    by_test : (b : Bool) → (b ≡ true → n < length blocks) → 1 ≤ cond b 1 0 → n < length blocks
    by_test true below some = below refl
    by_test false below some = absurd (omega arith)

pub at_most_once : (n : ℕ) (blocks : List (List ℕ)) → once n blocks ≤ 1
at_most_once n blocks = by_test (nat_lt n (length blocks))
  where
    by_test : (b : Bool) → cond b 1 0 ≤ 1
    by_test true = omega arith
    by_test false = omega arith

-- as many blocks have the same numbers
pub once_same : (n : ℕ) (one two : List (List ℕ)) → length one ≡ length two → once n one ≡ once n two
once_same n one two same = ap (λ k. cond (nat_lt n k) 1 0) same

pub no_growth : (p : Pooled) → HasGrown p p
no_growth p = record { kept = λ n below. refl; more = omega arith; free = refl; stands = λ n. refl }

-- a block more has the next number
once_more : (n : ℕ) (blocks : List (List ℕ)) (b : List ℕ)
    → once n (blocks ++ b ∷ []) ≡ once n blocks + cond (n == length blocks) 1 0
once_more n blocks b =
    ap (λ k. cond (nat_lt n k) 1 0) (length-append blocks (b ∷ []))
    ∙ by_tests (nat_lt n (length blocks + 1)) (nat_lt n (length blocks)) (n == length blocks)
    (λ is. grind (arith, nat_tests)) (λ is. grind (arith, nat_tests)) (λ one two is. grind (arith, nat_tests))
  where
    by_tests : (below before at : Bool) → (at ≡ true → (below ≡ true) × (before ≡ false)) → (before ≡ true → below ≡ true)
        → (at ≡ false → before ≡ false → below ≡ true → ⊥)
        → cond below 1 0 ≡ cond before 1 0 + cond at 1 0
    by_tests true true true here there none = let is = (here refl).1 in absurd cc
    by_tests true true false here there none = refl
    by_tests true false true here there none = refl
    by_tests true false false here there none = absurd (none refl refl refl)
    by_tests false true at here there none = let is = there refl in absurd cc
    by_tests false false true here there none = let is = (here refl).0 in absurd cc
    by_tests false false false here there none = refl

pub grown_more : (p q : Pooled) → HasGrown p q → HasGrown p (made q)
grown_more p q grown =
    let more = grown.more in
    let free = grown.free in
    let longer = length-append q.blocks (blank ∷ []) in
    let longer_free = length-append q.free (length q.blocks ∷ []) in
    record {
      kept = λ n below. get_or_append_left q.blocks (blank ∷ []) [] n (omega arith) ∙ grown.kept n below;
      more = omega arith;
      free = omega arith;
      stands = λ n.
          let before = grown.stands n in
          let one = times-append n q.free (length q.blocks ∷ []) in
          let two = once_more n q.blocks blank in
          omega arith;
    }

-- what stands before the end of the octets that are written
written_first : (old rest other : List ℕ) (r : ℕ) (part : List ℕ) → r + length part ≤ length old
    → take (r + length part) ((take r old ++ part ++ drop (r + length part) old) ++ rest) ≡ take r (old ++ other) ++ part
written_first old rest other r part room =
    let first = length-take-le r old (omega arith) in
    let both = length-append (take r old) part in
    ap (take (r + length part)) (append_assoc (take r old ++ part) (drop (r + length part) old) rest)
    ∙ take_at (take r old ++ part) _ (r + length part) (omega arith)
    ∙ ap (λ l. l ++ part) (sym (take-append-le r old other (omega arith)))

-- a number stands once more before a list
times_first : (n : ℕ) (numbers : List ℕ) → times n (n ∷ numbers) ≡ 1 + times n numbers
times_first n numbers = let same : (n == n) ≡ true = grind (arith, nat_tests) in rw same refl

-- numbers behind the first are apart too
rest_apart : (blocks : List (List ℕ)) (n : ℕ) (numbers : List ℕ) → AreApart blocks (n ∷ numbers) → AreApart blocks numbers
rest_apart blocks n numbers apart = record { apart = λ k. let most = apart.apart k in omega arith }

-- and the first is none of them
first_apart : (blocks : List (List ℕ)) (n : ℕ) (numbers : List ℕ) → AreApart blocks (n ∷ numbers) → times n numbers ≡ 0
first_apart blocks n numbers apart =
    let most = apart.apart n in
    let once = at_most_once n blocks in
    let stands = times_first n numbers in
    omega arith

-- octets written into a block of a list go behind those that stand before its place
pub written_part : (blocks : List (List ℕ)) (numbers : List ℕ) (q r : ℕ) (part : List ℕ)
    → AreWhole blocks → AreApart blocks numbers → q < length numbers → r + length part ≤ 512
    → octets_at (set blocks (get_or numbers q 0)
    (take r (block blocks (get_or numbers q 0)) ++ part ++ drop (r + length part) (block blocks (get_or numbers q 0))))
    numbers (512 * q + (r + length part)) ≡ octets_at blocks numbers (512 * q + r) ++ part
written_part blocks [] q r part whole apart within room = absurd (omega arith)
written_part blocks (n ∷ numbers) zero r part whole apart within room =
    let below = named (n ∷ numbers) blocks n apart (times_at (n ∷ numbers) 0 (omega arith)) in
    let is = whole.whole n below in
    let new = take r (block blocks n) ++ part ++ drop (r + length part) (block blocks n) in
    ap (λ k. take k (block (set blocks n new) n ++ laid (set blocks n new) numbers)) (zero-add (r + length part))
    ∙ ap (λ b. take (r + length part) (b ++ laid (set blocks n new) numbers)) (get_or-set_same blocks n new [] below)
    ∙ written_first (block blocks n) (laid (set blocks n new) numbers) (laid blocks numbers) r part (omega arith)
    ∙ ap (λ k. take k (block blocks n ++ laid blocks numbers) ++ part) (sym (zero-add r))
written_part blocks (n ∷ numbers) (suc q) r part whole apart within room =
    let below = named (n ∷ numbers) blocks n apart (let first = times_first n numbers in omega arith) in
    let is = whole.whole n below in
    let others = first_apart blocks n numbers apart in
    let at = get_or numbers q 0 in
    let new = take r (block blocks at) ++ part ++ drop (r + length part) (block blocks at) in
    let stands = times_at numbers q (omega arith) in
    let differs : n ≢ at = λ same. let none = ap (λ k. times k numbers) same in omega arith in
    let size : 512 * suc q + (r + length part) ≡ length (block blocks n) + (512 * q + (r + length part)) = omega arith in
    let before : 512 * suc q + r ≡ length (block blocks n) + (512 * q + r) = omega arith in
    ap (λ b. take (512 * suc q + (r + length part)) (b ++ laid (set blocks at new) numbers)) (get_or-set_other blocks at n new [] differs)
    ∙ ap (λ k. take k (block blocks n ++ laid (set blocks at new) numbers)) size
    ∙ take-append-add (block blocks n) (laid (set blocks at new) numbers) (512 * q + (r + length part))
    ∙ ap (λ l. block blocks n ++ l) (written_part blocks numbers q r part whole (rest_apart blocks n numbers apart) (omega arith) room)
    ∙ sym (append_assoc (block blocks n) (octets_at blocks numbers (512 * q + r)) part)
    ∙ ap (λ l. l ++ part) (sym (take-append-add (block blocks n) (laid blocks numbers) (512 * q + r)))
    ∙ ap (λ k. take k (block blocks n ++ laid blocks numbers) ++ part) (sym before)

-- the same, at a place in octets
pub written_at : (blocks new : List (List ℕ)) (numbers : List ℕ) (place : ℕ) (part : List ℕ)
    → AreWhole blocks → AreApart blocks numbers → place / 512 < length numbers → place % 512 + length part ≤ 512
    → new ≡ set blocks (get_or numbers (place / 512) 0)
    (take (place % 512) (block blocks (get_or numbers (place / 512) 0)) ++ part
    ++ drop (place % 512 + length part) (block blocks (get_or numbers (place / 512) 0)))
    → octets_at new numbers (place + length part) ≡ octets_at blocks numbers place ++ part
written_at blocks new numbers place part whole apart within room is =
    let number = get_or numbers (place / 512) 0 in
    let b = take (place % 512) (block blocks number) ++ part ++ drop (place % 512 + length part) (block blocks number) in
    let parts = div-add-mod' place 512 in
    let start : place ≡ 512 * (place / 512) + place % 512 = omega arith in
    let end : place + length part ≡ 512 * (place / 512) + (place % 512 + length part) = omega arith in
    ap (λ all. octets_at all numbers (place + length part)) is
    ∙ ap (octets_at (set blocks number b) numbers) end
    ∙ written_part blocks numbers (place / 512) (place % 512) part whole apart within room
    ∙ ap (λ k. octets_at blocks numbers k ++ part) (sym start)

-- what is written into one of these blocks leaves all others
pub one_written : (blocks old new : List (List ℕ)) (numbers : List ℕ) (i : ℕ) (b : List ℕ) → AreWritten numbers blocks old
    → i < length numbers → new ≡ set old (get_or numbers i 0) b → AreWritten numbers blocks new
one_written blocks old new numbers i b written within is =
    let stands = times_at numbers i within in
    record {
      others = λ n none.
          let differs : n ≢ get_or numbers i 0 = λ same. let none_there = ap (λ k. times k numbers) same in omega arith in
          ap (λ l. block l n) is ∙ get_or-set_other old (get_or numbers i 0) n b [] differs ∙ written.others n none;
      number = ap length is ∙ length-set old (get_or numbers i 0) b ∙ written.number;
    }

-- numbers name blocks of their own wherever there are as many blocks
pub apart_same : (one two : List (List ℕ)) (numbers : List ℕ) → AreApart one numbers → length two ≡ length one → AreApart two numbers
apart_same one two numbers apart same = record {
  apart = λ n. let most = apart.apart n in let as_many = once_same n two one same in omega arith;
}

pub nothing_written : (numbers : List ℕ) (blocks : List (List ℕ)) → AreWritten numbers blocks blocks
nothing_written numbers blocks = record { others = λ n none. refl; number = refl }

-- what a step of writing finds: its place is in the list, and its octets are there
pub place_within : (at done n size count : ℕ) → done < size → at + size ≤ 512 * count → (at + done) / 512 < count
place_within at done n size count more room = let parts = div-add-mod' (at + done) 512 in omega arith

-- a step of writing: n octets more stand behind those before
pub step_written : (first old new : List (List ℕ)) (numbers octets : List ℕ) (at done n : ℕ)
    → AreWhole old → AreApart first numbers → AreWritten numbers first old
    → octets_at old numbers (at + done) ≡ octets_at first numbers at ++ take done octets
    → at + length octets ≤ 512 * length numbers → done < length octets
    → n ≡ min (512 - (at + done) % 512) (length octets - done)
    → new ≡ set old (get_or numbers ((at + done) / 512) 0)
    (take ((at + done) % 512) (block old (get_or numbers ((at + done) / 512) 0)) ++ take (done + n - done) (drop done octets)
    ++ drop ((at + done) % 512 + length (take (done + n - done) (drop done octets))) (block old (get_or numbers ((at + done) / 512) 0)))
    → (octets_at new numbers (at + (done + n)) ≡ octets_at first numbers at ++ take (done + n) octets) × AreWritten numbers first new
step_written first old new numbers octets at done n whole apart written value room more is_n is =
    let part = take (done + n - done) (drop done octets) in
    let rest = mod-lt (at + done) {m = 512} (lit< tt) in
    let left = length-drop done octets in
    let count : done + n - done ≡ n = omega arith in
    let size : length part ≡ done + n - done = length-take-le (done + n - done) (drop done octets) (omega arith) in
    let within = place_within at done n (length octets) (length numbers) more room in
    let end : at + (done + n) ≡ (at + done) + length part = omega arith in (
      ap (octets_at new numbers) end
          ∙ written_at old new numbers (at + done) part whole (apart_same first old numbers apart written.number) within (omega arith) is
          ∙ ap (λ l. l ++ part) value
          ∙ append_assoc (octets_at first numbers at) (take done octets) part
          ∙ ap (λ k. octets_at first numbers at ++ (take done octets ++ take k (drop done octets))) count
          ∙ ap (λ l. octets_at first numbers at ++ l) (sym (take-add done n octets)),
      one_written first old new numbers ((at + done) / 512) _ written within is,
    )

-- so many blocks have 512 octets each
pub length-laid : (blocks : List (List ℕ)) (numbers : List ℕ) → AreWhole blocks → AreApart blocks numbers
    → length (laid blocks numbers) ≡ 512 * length numbers
length-laid blocks [] whole apart = refl
length-laid blocks (n ∷ numbers) whole apart =
    let first = times_first n numbers in
    let here = whole.whole n (named (n ∷ numbers) blocks n apart (omega arith)) in
    let rest = length-laid blocks numbers whole (rest_apart blocks n numbers apart) in
    let both = length-append (block blocks n) (laid blocks numbers) in
    omega arith

-- there are as many octets as is said
pub length-chained : (blocks : List (List ℕ)) (numbers : List ℕ) (size : ℕ) → AreChained blocks numbers size
    → length (octets_at blocks numbers size) ≡ size
length-chained blocks numbers size chained =
    let all = length-laid blocks numbers chained.whole chained.apart in
    let within = chained.within in
    length-take-le size (laid blocks numbers) (omega arith)

-- what lies at a place in a block lies there among all
laid_part : (blocks : List (List ℕ)) (numbers : List ℕ) (q r n : ℕ) → AreWhole blocks → AreApart blocks numbers
    → q < length numbers → r + n ≤ 512
    → take n (drop (512 * q + r) (laid blocks numbers)) ≡ take n (drop r (block blocks (get_or numbers q 0)))
laid_part blocks [] q r n whole apart within room = absurd (omega arith)
laid_part blocks (m ∷ numbers) zero r n whole apart within room =
    let first = times_first m numbers in
    let is = whole.whole m (named (m ∷ numbers) blocks m apart (omega arith)) in
    let left = length-drop r (block blocks m) in
    ap (λ k. take n (drop k (block blocks m ++ laid blocks numbers))) (zero-add r)
    ∙ ap (take n) (drop-append-le r (block blocks m) (laid blocks numbers) (omega arith))
    ∙ take-append-le n (drop r (block blocks m)) (laid blocks numbers) (omega arith)
laid_part blocks (m ∷ numbers) (suc q) r n whole apart within room =
    let first = times_first m numbers in
    let is = whole.whole m (named (m ∷ numbers) blocks m apart (omega arith)) in
    let place : 512 * suc q + r ≡ length (block blocks m) + (512 * q + r) = omega arith in
    ap (λ k. take n (drop k (block blocks m ++ laid blocks numbers))) place
    ∙ ap (take n) (drop-append-add (block blocks m) (laid blocks numbers) (512 * q + r))
    ∙ laid_part blocks numbers q r n whole (rest_apart blocks m numbers apart) (omega arith) room

-- the rest of a block, as far as octets go, lies together
pub run_part : (blocks : List (List ℕ)) (numbers run : List ℕ) (size from end : ℕ) → AreChained blocks numbers size
    → from < size → end ≡ min (from % 512 + (size - from)) 512
    → run ≡ take (end - from % 512) (drop (from % 512) (block blocks (get_or numbers (from / 512) 0)))
    → (0 < length run) × (run ≡ take (length run) (drop from (octets_at blocks numbers size)))
run_part blocks numbers run size from end chained within is_end is =
    let parts = div-add-mod' from 512 in
    let rest = mod-lt from {m = 512} (lit< tt) in
    let all = chained.within in
    let lies : from / 512 < length numbers = omega arith in
    let there = named numbers blocks (get_or numbers (from / 512) 0) chained.apart (times_at numbers (from / 512) lies) in
    let whole = chained.whole.whole (get_or numbers (from / 512) 0) there in
    let left = length-drop (from % 512) (block blocks (get_or numbers (from / 512) 0)) in
    let n = end - from % 512 in
    let size_of : length run ≡ n = ap length is ∙ length-take-le n (drop (from % 512) (block blocks (get_or numbers (from / 512) 0))) (omega arith) in
    let start : 512 * (from / 512) + from % 512 ≡ from = omega arith in
    let size_is : from + (size - from) ≡ size = omega arith in
    let part = laid_part blocks numbers (from / 512) (from % 512) n chained.whole chained.apart lies (omega arith) in (
      omega arith,
      is ∙ sym part ∙ ap (λ k. take n (drop k (laid blocks numbers))) start
          ∙ sym (take-take n (size - from) (drop from (laid blocks numbers)) (omega arith))
          ∙ ap (take n) (sym (drop-take from (size - from) (laid blocks numbers)))
          ∙ ap (λ k. take n (drop from (take k (laid blocks numbers)))) size_is
          ∙ ap (λ k. take k (drop from (octets_at blocks numbers size))) (sym size_of),
    )

-- the first octet of a run is the one at its place
pub run_first : (l run : List ℕ) (from : ℕ) → 0 < length run → run ≡ take (length run) (drop from l)
    → get_or run 0 0 ≡ get_or l from 0
run_first l run from some is =
    ap (λ r. get_or r 0 0) is ∙ get_or-take (length run) (drop from l) 0 0 some ∙ get_or-drop from l 0 0 ∙ ap (λ k. get_or l k 0) (add-zero from)

-- a run behind the octets before it
pub run_more : (l copy run : List ℕ) → copy ≡ take (length copy) l → run ≡ take (length run) (drop (length copy) l)
    → (copy ++ run ≡ take (length (copy ++ run)) l) × (length (copy ++ run) ≤ length l)
run_more l copy run copied is =
    let both = length-append copy run in
    let first = ap length copied ∙ length-take (length copy) l in
    let rest = ap length is ∙ length-take (length run) (drop (length copy) l) in
    let left = length-drop (length copy) l in (
      ap (λ c. c ++ run) copied ∙ ap (λ r. take (length copy) l ++ r) is ∙ sym (take-add (length copy) (length run) l)
          ∙ ap (λ k. take k l) (sym both),
      omega arith,
    )

-- numbers that name the same octets as before
pub laid_same : (old new : List (List ℕ)) (numbers : List ℕ) → ((n : ℕ) → 1 ≤ times n numbers → block new n ≡ block old n)
    → laid new numbers ≡ laid old numbers
laid_same old new [] same = refl
laid_same old new (n ∷ numbers) same =
    let first = times_first n numbers in
    ap (λ b. b ++ laid new numbers) (same n (omega arith))
    ∙ ap (λ l. block old n ++ l) (laid_same old new numbers (λ m stands. same m (omega arith)))

pub laid-append : (blocks : List (List ℕ)) (one two : List ℕ) → laid blocks (one ++ two) ≡ laid blocks one ++ laid blocks two
laid-append blocks [] two = refl
laid-append blocks (n ∷ one) two =
    ap (λ l. block blocks n ++ l) (laid-append blocks one two) ∙ sym (append_assoc (block blocks n) (laid blocks one) (laid blocks two))

-- numbers joined to a list's leave its octets
pub octets_at-append : (blocks : List (List ℕ)) (one two : List ℕ) (size : ℕ) → AreChained blocks one size
    → octets_at blocks (one ++ two) size ≡ octets_at blocks one size
octets_at-append blocks one two size chained =
    let all = length-laid blocks one chained.whole chained.apart in
    let within = chained.within in
    ap (take size) (laid-append blocks one two) ∙ take-append-le size (laid blocks one) (laid blocks two) (omega arith)

-- numbers stand in two parts of a list as often as in the list
pub times_parts : (n k : ℕ) (numbers : List ℕ) → times n (take k numbers) + times n (drop k numbers) ≡ times n numbers
times_parts n k numbers = sym (times-append n (take k numbers) (drop k numbers)) ∙ ap (times n) (take-append-drop k numbers)

-- the block that a place of the octets lies in is there
pub named_at : (blocks : List (List ℕ)) (numbers : List ℕ) (size place : ℕ) → AreChained blocks numbers size → place < size
    → (place / 512 < length numbers) × (get_or numbers (place / 512) 0 < length blocks)
named_at blocks numbers size place chained within =
    let parts = div-add-mod' place 512 in
    let all = chained.within in
    let lies : place / 512 < length numbers = omega arith in
    (lies, named numbers blocks (get_or numbers (place / 512) 0) chained.apart (times_at numbers (place / 512) lies))
