-- Blocks in chunks of 64: each block by its number, and the next one.
use Rattle.std.proofs.Common.{◌≡◌, ℕ, zero, suc, ◌+◌, ◌-◌, ◌*◌, ◌/◌, ◌%◌, ◌<◌, ◌==◌, ◌≢◌, nat_lt, Bool, true, false, min, List, [], ◌∷◌, ◌++◌, length, get_or, set, refl, sym, ap, ◌∙◌, arith, append_assoc, append-nil, zero-add, length-append, lit<}
use Rattle.std.proofs.lemmas.List.{get_or_append_left, get_or-append-add, set-append_left, length-set, get_or_default, get_or-set_same, get_or-set_other}
use Rattle.std.proofs.lemmas.Nat.{div-add-mod'}
use Rattle.std.proofs.lemmas.Bool.Decides.{nat_tests}
use Rattle.std.proofs.Math.Nat.{mod-lt}
use Rattle.std.proofs.Math.Seq.{get_or-append_seam}
use Rattle.giop_frag.specs.Chunks.{in_order, chunk, AreChunks}

-- each chunk before this place has 64 blocks
record AreFull (chunks : List (List (List ℕ))) (q : ℕ) : Type 0 where
  full : (i : ℕ) → i < q → length (chunk chunks i) ≡ 64

rest_full : (one : List (List ℕ)) (chunks : List (List (List ℕ))) (q : ℕ) → AreFull (one ∷ chunks) (suc q) → AreFull chunks q
rest_full one chunks q are = record { full = λ i below. are.full (suc i) (omega arith) }

-- the block of a number stands in its chunk, at its place there
block_in : (chunks : List (List (List ℕ))) (q r : ℕ) → AreFull chunks q → q < length chunks → r < length (chunk chunks q)
    → get_or (in_order chunks) (64 * q + r) [] ≡ get_or (chunk chunks q) r []
block_in [] q r are within there = absurd (omega arith)
block_in (one ∷ chunks) zero r are within there =
    ap (λ k. get_or (one ++ in_order chunks) k []) (zero-add r) ∙ get_or_append_left one (in_order chunks) [] r there
block_in (one ∷ chunks) (suc q) r are within there =
    let size = are.full 0 (omega arith) in
    let place : 64 * suc q + r ≡ length one + (64 * q + r) = omega arith in
    ap (λ k. get_or (one ++ in_order chunks) k []) place
    ∙ get_or-append-add one (in_order chunks) (64 * q + r) []
    ∙ block_in chunks q r (rest_full one chunks q are) (omega arith) there

-- joining behind and setting before the seam, or behind it
set_behind : (xs ys : List (List ℕ)) (n : ℕ) (b : List ℕ) → set (xs ++ ys) (length xs + n) b ≡ xs ++ set ys n b
set_behind [] ys n b = ap (λ k. set ys k b) (zero-add n)
set_behind (x ∷ xs) ys n b =
    let place : suc (length xs) + n ≡ suc (length xs + n) = omega arith in
    ap (λ k. set (x ∷ (xs ++ ys)) k b) place ∙ ap (λ l. x ∷ l) (set_behind xs ys n b)

-- a block that is written is so under its number
block_set : (chunks : List (List (List ℕ))) (q r : ℕ) (b : List ℕ) → AreFull chunks q → q < length chunks → r < length (chunk chunks q)
    → in_order (set chunks q (set (chunk chunks q) r b)) ≡ set (in_order chunks) (64 * q + r) b
block_set [] q r b are within there = absurd (omega arith)
block_set (one ∷ chunks) zero r b are within there =
    sym (set-append_left one (in_order chunks) r b there) ∙ ap (λ k. set (one ++ in_order chunks) k b) (sym (zero-add r))
block_set (one ∷ chunks) (suc q) r b are within there =
    let size = are.full 0 (omega arith) in
    let place : 64 * suc q + r ≡ length one + (64 * q + r) = omega arith in
    ap (λ l. one ++ l) (block_set chunks q r b (rest_full one chunks q are) (omega arith) there)
    ∙ sym (set_behind one (in_order chunks) (64 * q + r) b)
    ∙ ap (λ k. set (one ++ in_order chunks) k b) (sym place)

-- a chunk's number of blocks
full_before : (chunks : List (List (List ℕ))) (count q : ℕ) → AreChunks chunks count → q < length chunks → AreFull chunks q
full_before chunks count q are within = record {
  full = λ i below. let size = are.sizes i (omega arith) in let needed = are.needed in omega arith;
}

-- there are as many blocks as is said
rest_chunks : (one : List (List ℕ)) (chunks : List (List (List ℕ))) (count : ℕ) → AreChunks (one ∷ chunks) count → AreChunks chunks (count - 64)
rest_chunks one chunks count are =
    let enough = are.enough in
    let needed = are.needed in
    record {
      sizes = λ i within. let size = are.sizes (suc i) (omega arith) in omega arith;
      enough = omega arith;
      needed = by_rest chunks needed;
    }
  where
    by_rest : (rest : List (List (List ℕ))) → 64 * suc (length rest) < count + 64 → 64 * length rest < count - 64 + 64
    by_rest [] needed = omega arith
    by_rest (two ∷ rest) needed = omega arith

pub length-in_order : (chunks : List (List (List ℕ))) (count : ℕ) → AreChunks chunks count → length (in_order chunks) ≡ count
length-in_order [] count are = let enough = are.enough in omega arith
length-in_order (one ∷ chunks) count are =
    let size = are.sizes 0 (omega arith) in
    let rest = length-in_order chunks (count - 64) (rest_chunks one chunks count are) in
    let both = length-append one (in_order chunks) in
    omega arith

-- where the block of a number stands
pub record StandsAt (chunks : List (List (List ℕ))) (number : ℕ) : Type 0 where
  pub within : number / 64 < length chunks
  pub there : number % 64 < length (chunk chunks (number / 64))
  pub block_is : get_or (in_order chunks) number [] ≡ get_or (chunk chunks (number / 64)) (number % 64) []
  pub set_is : (b : List ℕ) → in_order (set chunks (number / 64) (set (chunk chunks (number / 64)) (number % 64) b)) ≡ set (in_order chunks) number b

pub stands_at : (chunks : List (List (List ℕ))) (count number : ℕ) → AreChunks chunks count → number < count → StandsAt chunks number
stands_at chunks count number are below =
    let parts = div-add-mod' number 64 in
    let rest = mod-lt number {m = 64} (lit< tt) in
    let enough = are.enough in
    let within : number / 64 < length chunks = omega arith in
    let size = are.sizes (number / 64) within in
    let there : number % 64 < length (chunk chunks (number / 64)) = omega arith in
    let full = full_before chunks count (number / 64) are within in
    let place : 64 * (number / 64) + number % 64 ≡ number = omega arith in
    record {
      within = within;
      there = there;
      block_is = ap (λ k. get_or (in_order chunks) k []) (sym place) ∙ block_in chunks (number / 64) (number % 64) full within there;
      set_is = λ b. block_set chunks (number / 64) (number % 64) b full within there ∙ ap (λ k. set (in_order chunks) k b) place;
    }

-- a chunk that becomes another of its size leaves the others
pub chunks_set : (chunks : List (List (List ℕ))) (count q : ℕ) (new : List (List ℕ)) → AreChunks chunks count
    → length new ≡ length (chunk chunks q) → AreChunks (set chunks q new) count
chunks_set chunks count q new are same =
    let longer = length-set chunks q new in
    let enough = are.enough in
    let needed = are.needed in
    record {
      sizes = λ i within. sizes_at chunks q i new same (omega arith) ∙ are.sizes i (omega arith);
      enough = omega arith;
      needed = omega arith;
    }
  where
    sizes_at : (chunks : List (List (List ℕ))) (q i : ℕ) (new : List (List ℕ)) → length new ≡ length (chunk chunks q) → i < length chunks
        → length (chunk (set chunks q new) i) ≡ length (chunk chunks i)
    sizes_at [] q i new same within = absurd (omega arith)
    sizes_at (one ∷ chunks) zero zero new same within = same
    sizes_at (one ∷ chunks) zero (suc i) new same within = refl
    sizes_at (one ∷ chunks) (suc q) zero new same within = refl
    sizes_at (one ∷ chunks) (suc q) (suc i) new same within = sizes_at chunks q i new same (omega arith)

-- a chunk behind the others has one block
pub record IsLonger (chunks new : List (List (List ℕ))) (count : ℕ) (b : List ℕ) : Type 0 where
  pub are : AreChunks new (count + 1)
  pub in_order_is : in_order new ≡ in_order chunks ++ b ∷ []

pub chunk_begun : (chunks : List (List (List ℕ))) (count : ℕ) (b : List ℕ) → AreChunks chunks count → count % 64 ≡ 0
    → IsLonger chunks (chunks ++ (b ∷ []) ∷ []) count b
chunk_begun chunks count b are even =
    let parts = div-add-mod' count 64 in
    let enough = are.enough in
    let needed = are.needed in
    let longer = length-append chunks ((b ∷ []) ∷ []) in
    let full : length chunks ≡ count / 64 = omega arith in
    record {
      are = record { sizes = λ i within. sizes_at i (nat_lt i (length chunks)) refl (omega arith); enough = omega arith; needed = omega arith };
      in_order_is = behind chunks;
    }
  where
    behind : (chunks : List (List (List ℕ))) → in_order (chunks ++ (b ∷ []) ∷ []) ≡ in_order chunks ++ b ∷ []
    behind [] = refl
    behind (one ∷ chunks) = ap (λ l. one ++ l) (behind chunks) ∙ sym (append_assoc one (in_order chunks) (b ∷ []))

    sizes_at : (i : ℕ) (t : Bool) → nat_lt i (length chunks) ≡ t → i < length chunks + 1
        → length (chunk (chunks ++ (b ∷ []) ∷ []) i) ≡ min 64 (count + 1 - 64 * i)
    sizes_at i true is within =
        let below : i < length chunks = grind (arith, nat_tests) in
        let size = are.sizes i below in
        let parts = div-add-mod' count 64 in
        let enough = are.enough in
        let needed = are.needed in
        ap length (get_or_append_left chunks ((b ∷ []) ∷ []) [] i below) ∙ size ∙ omega arith
    sizes_at i false is within =
        let at : i ≡ length chunks = grind (arith, nat_tests) in
        let parts = div-add-mod' count 64 in
        let enough = are.enough in
        let needed = are.needed in
        ap (λ k. length (chunk (chunks ++ (b ∷ []) ∷ []) k)) at
        ∙ ap length (get_or-append_seam chunks (b ∷ []) [] []) ∙ omega arith

-- the last chunk has room, and gets a block
pub record HasRoom (chunks : List (List (List ℕ))) (count : ℕ) : Type 0 where
  pub within : count / 64 < length chunks
  pub room : length (chunk chunks (count / 64)) < 64
  pub longer : (b : List ℕ) → IsLonger chunks (set chunks (count / 64) (chunk chunks (count / 64) ++ b ∷ [])) count b

pub has_room : (chunks : List (List (List ℕ))) (count : ℕ) → AreChunks chunks count → count % 64 ≢ 0 → HasRoom chunks count
has_room chunks count are odd =
    let parts = div-add-mod' count 64 in
    let rest = mod-lt count {m = 64} (lit< tt) in
    let enough = are.enough in
    let needed = are.needed in
    let within : count / 64 < length chunks = omega arith in
    let size = are.sizes (count / 64) within in
    let last : suc (count / 64) ≡ length chunks = omega arith in
    record {
      within = within;
      room = omega arith;
      longer = λ b. let longer = length-set chunks (count / 64) (chunk chunks (count / 64) ++ b ∷ []) in
          record {
            are = record { sizes = λ i below. sizes_at b (count / 64) i last size (omega arith); enough = omega arith; needed = omega arith };
            in_order_is = last_grown chunks (count / 64) b last;
          };
    }
  where
    last_grown : (chunks : List (List (List ℕ))) (q : ℕ) (b : List ℕ) → suc q ≡ length chunks
        → in_order (set chunks q (chunk chunks q ++ b ∷ [])) ≡ in_order chunks ++ b ∷ []
    last_grown [] q b last = absurd (omega arith)
    last_grown (one ∷ []) zero b last = append-nil (one ++ b ∷ []) ∙ ap (λ l. l ++ b ∷ []) (sym (append-nil one))
    last_grown (one ∷ two ∷ chunks) zero b last = absurd (omega arith)
    last_grown (one ∷ chunks) (suc q) b last =
        ap (λ l. one ++ l) (last_grown chunks q b (omega arith)) ∙ sym (append_assoc one (in_order chunks) (b ∷ []))

    sizes_at : (b : List ℕ) (q i : ℕ) → suc q ≡ length chunks → length (chunk chunks q) ≡ min 64 (count - 64 * q) → i < length chunks
        → length (chunk (set chunks q (chunk chunks q ++ b ∷ [])) i) ≡ min 64 (count + 1 - 64 * i)
    sizes_at b q i last size within = by_test (i == q) refl
      where
        here : length (chunk chunks q ++ b ∷ []) ≡ min 64 (count + 1 - 64 * q)
        here =
            let parts = div-add-mod' count 64 in
            let rest = mod-lt count {m = 64} (lit< tt) in
            let both = length-append (chunk chunks q) (b ∷ []) in
            let enough = are.enough in
            let needed = are.needed in
            omega arith

        by_test : (t : Bool) → (i == q) ≡ t → length (chunk (set chunks q (chunk chunks q ++ b ∷ [])) i) ≡ min 64 (count + 1 - 64 * i)
        by_test true is =
            let same : i ≡ q = grind (arith, nat_tests) in
            ap (λ k. length (chunk (set chunks q (chunk chunks q ++ b ∷ [])) k)) same
            ∙ ap length (get_or-set_same chunks q (chunk chunks q ++ b ∷ []) [] (omega arith))
            ∙ here ∙ ap (λ k. min 64 (count + 1 - 64 * k)) (sym same)
        by_test false is =
            let differs : i ≢ q = grind (arith, nat_tests) in
            ap length (get_or-set_other chunks q i (chunk chunks q ++ b ∷ []) [] differs) ∙ are.sizes i within ∙ before
          where
            before : min 64 (count - 64 * i) ≡ min 64 (count + 1 - 64 * i)
            before =
                let differs : i ≢ q = grind (arith, nat_tests) in
                let parts = div-add-mod' count 64 in
                let enough = are.enough in
                let needed = are.needed in
                omega arith

-- the same, of the chunk as it is read and written
pub stands_in : (chunks : List (List (List ℕ))) (blocks : List (List ℕ)) (count number : ℕ) → AreChunks chunks count
    → in_order chunks ≡ blocks → number < length blocks → StandsAt chunks number
stands_in chunks blocks count number are is below =
    let all = length-in_order chunks count are in
    let same = ap length is in
    stands_at chunks count number are (omega arith)

pub read_in : (chunks : List (List (List ℕ))) (blocks one : List (List ℕ)) (number : ℕ) → StandsAt chunks number → in_order chunks ≡ blocks
    → one ≡ get_or chunks (number / 64) one
    → (number % 64 < length one) × (get_or one (number % 64) [] ≡ get_or blocks number []) × (one ≡ chunk chunks (number / 64))
read_in chunks blocks one number stands is found =
    let same : one ≡ chunk chunks (number / 64) = found ∙ get_or_default chunks (number / 64) one [] stands.within in
    let size = ap length same in
    let there = stands.there in (
      omega arith,
      ap (λ l. get_or l (number % 64) []) same ∙ sym stands.block_is ∙ ap (λ l. get_or l number []) is,
      same,
    )

pub written_in : (chunks : List (List (List ℕ))) (blocks one new : List (List ℕ)) (number : ℕ) (write : List ℕ → List ℕ)
    → StandsAt chunks number → in_order chunks ≡ blocks → one ≡ get_or chunks (number / 64) one
    → new ≡ set one (number % 64) (write (get_or one (number % 64) []))
    → in_order (set chunks (number / 64) new) ≡ set blocks number (write (get_or blocks number []))
written_in chunks blocks one new number write stands is found now =
    let read = read_in chunks blocks one number stands is found in
    ap (λ l. in_order (set chunks (number / 64) l)) now
    ∙ ap (λ b. in_order (set chunks (number / 64) (set one (number % 64) (write b)))) read.1
    ∙ ap (λ l. in_order (set chunks (number / 64) (set l (number % 64) (write (get_or blocks number []))))) read.2
    ∙ stands.set_is (write (get_or blocks number []))
    ∙ ap (λ l. set l number (write (get_or blocks number []))) is

-- one block more, in the last chunk
pub pushed_in : (chunks : List (List (List ℕ))) (count : ℕ) (one new : List (List ℕ)) (b : List ℕ) → HasRoom chunks count
    → one ≡ get_or chunks (count / 64) one → new ≡ one ++ b ∷ []
    → (length one < 64) × IsLonger chunks (set chunks (count / 64) new) count b
pushed_in chunks count one new b has found now =
    let same : one ≡ chunk chunks (count / 64) = found ∙ get_or_default chunks (count / 64) one [] has.within in
    let size = ap length same in
    let room = has.room in
    let is : new ≡ chunk chunks (count / 64) ++ b ∷ [] = now ∙ ap (λ l. l ++ b ∷ []) same in
    (omega arith, rw is (has.longer b))

-- the same, of the chunk as it was made
pub begun_as : (chunks roomy new : List (List (List ℕ))) (one first : List (List ℕ)) {count : ℕ} {b : List ℕ} → roomy ≡ chunks → one ≡ []
    → first ≡ one ++ b ∷ [] → new ≡ roomy ++ first ∷ [] → IsLonger chunks (chunks ++ (b ∷ []) ∷ []) count b → IsLonger chunks new count b
begun_as chunks roomy new one first {count} {b} same empty pushed now longer =
    let is : new ≡ chunks ++ (b ∷ []) ∷ [] =
    now ∙ ap (λ l. l ++ first ∷ []) same ∙ ap (λ f. chunks ++ f ∷ []) (pushed ∙ ap (λ l. l ++ b ∷ []) empty) in
    rw is longer
