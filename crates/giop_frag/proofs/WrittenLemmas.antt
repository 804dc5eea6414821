-- What is written into blocks stands behind the octets before it.
use Rattle.std.proofs.Common.{min, ◌≡◌, ◌≢◌, ℕ, zero, suc, ◌+◌, ◌-◌, ◌*◌, ◌/◌, ◌%◌, ◌≤◌, ◌<◌, List, [], ◌∷◌, ◌++◌, length, take, drop, get_or, set, refl, sym, ap, ◌∙◌, arith, append_assoc, zero-add, length-append, length-drop, lit<}
use Rattle.std.proofs.lemmas.List.{get_or-set_same, get_or-set_other, length-set, length-take-le, take_at, take-append-le}
use Rattle.std.proofs.lemmas.Nat.{div-add-mod'}
use Rattle.std.proofs.Math.Nat.{mod-lt}
use Rattle.std.proofs.Math.Seq.{take-add, take-append-add}
use Rattle.giop_frag.specs.Blocks.{block, laid, octets_at, times, AreWhole, AreApart, AreWritten}
use Rattle.giop_frag.proofs.CountLemmas.{times_at, named, times_first, rest_apart, first_apart, apart_same}

-- what stands before the end of the octets that are written
written_first : (old rest other : List ℕ) (r : ℕ) (part : List ℕ) → r + length part ≤ length old
    → take (r + length part) ((take r old ++ part ++ drop (r + length part) old) ++ rest) ≡ take r (old ++ other) ++ part
written_first old rest other r part room =
    let first = length-take-le r old (omega arith) in
    let both = length-append (take r old) part in
    ap (take (r + length part)) (append_assoc (take r old ++ part) (drop (r + length part) old) rest)
    ∙ take_at (take r old ++ part) _ (r + length part) (omega arith)
    ∙ ap (λ l. l ++ part) (sym (take-append-le r old other (omega arith)))

-- octets written into a block of a list go behind those that stand before its place
pub written_part : (blocks : List (List ℕ)) (numbers : List ℕ) (q r : ℕ) (part : List ℕ)
    → AreWhole blocks → AreApart blocks numbers → q < length numbers → r + length part ≤ 512
    → octets_at (set blocks (get_or numbers q 0)
    (take r (block blocks (get_or numbers q 0)) ++ part ++ drop (r + length part) (block blocks (get_or numbers q 0))))
    numbers (512 * q + (r + length part)) ≡ octets_at blocks numbers (512 * q + r) ++ part
written_part blocks [] q r part whole apart within room = absurd (omega arith)
written_part blocks (n ∷ numbers) zero r part whole apart within room =
    let below = named (n ∷ numbers) blocks n apart (times_at (n ∷ numbers) 0 (omega arith)) in
    let is = whole.whole n below in
    let new = take r (block blocks n) ++ part ++ drop (r + length part) (block blocks n) in
    ap (λ k. take k (block (set blocks n new) n ++ laid (set blocks n new) numbers)) (zero-add (r + length part))
    ∙ ap (λ b. take (r + length part) (b ++ laid (set blocks n new) numbers)) (get_or-set_same blocks n new [] below)
    ∙ written_first (block blocks n) (laid (set blocks n new) numbers) (laid blocks numbers) r part (omega arith)
    ∙ ap (λ k. take k (block blocks n ++ laid blocks numbers) ++ part) (sym (zero-add r))
written_part blocks (n ∷ numbers) (suc q) r part whole apart within room =
    let below = named (n ∷ numbers) blocks n apart (let first = times_first n numbers in omega arith) in
    let is = whole.whole n below in
    let others = first_apart blocks n numbers apart in
    let at = get_or numbers q 0 in
    let new = take r (block blocks at) ++ part ++ drop (r + length part) (block blocks at) in
    let stands = times_at numbers q (omega arith) in
    let differs : n ≢ at = λ same. let none = ap (λ k. times k numbers) same in omega arith in
    let size : 512 * suc q + (r + length part) ≡ length (block blocks n) + (512 * q + (r + length part)) = omega arith in
    let before : 512 * suc q + r ≡ length (block blocks n) + (512 * q + r) = omega arith in
    ap (λ b. take (512 * suc q + (r + length part)) (b ++ laid (set blocks at new) numbers)) (get_or-set_other blocks at n new [] differs)
    ∙ ap (λ k. take k (block blocks n ++ laid (set blocks at new) numbers)) size
    ∙ take-append-add (block blocks n) (laid (set blocks at new) numbers) (512 * q + (r + length part))
    ∙ ap (λ l. block blocks n ++ l) (written_part blocks numbers q r part whole (rest_apart blocks n numbers apart) (omega arith) room)
    ∙ sym (append_assoc (block blocks n) (octets_at blocks numbers (512 * q + r)) part)
    ∙ ap (λ l. l ++ part) (sym (take-append-add (block blocks n) (laid blocks numbers) (512 * q + r)))
    ∙ ap (λ k. take k (block blocks n ++ laid blocks numbers) ++ part) (sym before)

-- the same, at a place in octets
pub written_at : (blocks new : List (List ℕ)) (numbers : List ℕ) (place : ℕ) (part : List ℕ)
    → AreWhole blocks → AreApart blocks numbers → place / 512 < length numbers → place % 512 + length part ≤ 512
    → new ≡ set blocks (get_or numbers (place / 512) 0)
    (take (place % 512) (block blocks (get_or numbers (place / 512) 0)) ++ part
    ++ drop (place % 512 + length part) (block blocks (get_or numbers (place / 512) 0)))
    → octets_at new numbers (place + length part) ≡ octets_at blocks numbers place ++ part
written_at blocks new numbers place part whole apart within room is =
    let number = get_or numbers (place / 512) 0 in
    let b = take (place % 512) (block blocks number) ++ part ++ drop (place % 512 + length part) (block blocks number) in
    let parts = div-add-mod' place 512 in
    let start : place ≡ 512 * (place / 512) + place % 512 = omega arith in
    let end : place + length part ≡ 512 * (place / 512) + (place % 512 + length part) = omega arith in
    ap (λ all. octets_at all numbers (place + length part)) is
    ∙ ap (octets_at (set blocks number b) numbers) end
    ∙ written_part blocks numbers (place / 512) (place % 512) part whole apart within room
    ∙ ap (λ k. octets_at blocks numbers k ++ part) (sym start)

-- what is written into one of these blocks leaves all others
pub one_written : (blocks old new : List (List ℕ)) (numbers : List ℕ) (i : ℕ) (b : List ℕ) → AreWritten numbers blocks old
    → i < length numbers → new ≡ set old (get_or numbers i 0) b → AreWritten numbers blocks new
one_written blocks old new numbers i b written within is =
    let stands = times_at numbers i within in
    record {
      others = λ n none.
          let differs : n ≢ get_or numbers i 0 = λ same. let none_there = ap (λ k. times k numbers) same in omega arith in
          ap (λ l. block l n) is ∙ get_or-set_other old (get_or numbers i 0) n b [] differs ∙ written.others n none;
      number = ap length is ∙ length-set old (get_or numbers i 0) b ∙ written.number;
    }

pub nothing_written : (numbers : List ℕ) (blocks : List (List ℕ)) → AreWritten numbers blocks blocks
nothing_written numbers blocks = record { others = λ n none. refl; number = refl }

-- what a step of writing finds: its place is in the list, and its octets are there
pub place_within : (at done n size count : ℕ) → done < size → at + size ≤ 512 * count → (at + done) / 512 < count
place_within at done n size count more room = let parts = div-add-mod' (at + done) 512 in omega arith

-- a place behind others in a block is in the list
pub place_behind : (at count : ℕ) → 0 < at % 512 → at ≤ 512 * count → at / 512 < count
place_behind at count behind room = let parts = div-add-mod' at 512 in omega arith

-- a step of writing: n octets more stand behind those before
pub step_written : (first old new : List (List ℕ)) (numbers octets : List ℕ) (at done n : ℕ)
    → AreWhole old → AreApart first numbers → AreWritten numbers first old
    → octets_at old numbers (at + done) ≡ octets_at first numbers at ++ take done octets
    → at + length octets ≤ 512 * length numbers → done < length octets
    → n ≡ min (512 - (at + done) % 512) (length octets - done)
    → new ≡ set old (get_or numbers ((at + done) / 512) 0)
    (take ((at + done) % 512) (block old (get_or numbers ((at + done) / 512) 0)) ++ take (done + n - done) (drop done octets)
    ++ drop ((at + done) % 512 + length (take (done + n - done) (drop done octets))) (block old (get_or numbers ((at + done) / 512) 0)))
    → (octets_at new numbers (at + (done + n)) ≡ octets_at first numbers at ++ take (done + n) octets) × AreWritten numbers first new
step_written first old new numbers octets at done n whole apart written value room more is_n is =
    let part = take (done + n - done) (drop done octets) in
    let rest = mod-lt (at + done) {m = 512} (lit< tt) in
    let left = length-drop done octets in
    let count : done + n - done ≡ n = omega arith in
    let size : length part ≡ done + n - done = length-take-le (done + n - done) (drop done octets) (omega arith) in
    let within = place_within at done n (length octets) (length numbers) more room in
    let end : at + (done + n) ≡ (at + done) + length part = omega arith in (
      ap (octets_at new numbers) end
          ∙ written_at old new numbers (at + done) part whole (apart_same first old numbers apart written.number) within (omega arith) is
          ∙ ap (λ l. l ++ part) value
          ∙ append_assoc (octets_at first numbers at) (take done octets) part
          ∙ ap (λ k. octets_at first numbers at ++ (take done octets ++ take k (drop done octets))) count
          ∙ ap (λ l. octets_at first numbers at ++ l) (sym (take-add done n octets)),
      one_written first old new numbers ((at + done) / 512) _ written within is,
    )
