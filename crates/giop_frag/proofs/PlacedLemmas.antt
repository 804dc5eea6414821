-- The slots of a gatherer and its pool, after one slot has changed.
use Rattle.std.proofs.Common.{◌≡◌, ◌≢◌, ◌==◌, nat_lt, ℕ, ◌+◌, ◌≤◌, ◌<◌, Bool, true, false, cond, List, length, take, Option, Some, None, option_and_then, refl, sym, ap, ◌∙◌, arith}
use Rattle.std.proofs.lemmas.Bool.Decides.{nat_tests}
use Rattle.std.specs.Ordering.{nat_cmp, eq_by_cmp, is_eq}
use Rattle.std.proofs.lemmas.Cmp.{tied_itself}
use Rattle.std.specs.Cmp.{nat_cmp_total, eq_by_cmp_equiv, unsigned_tied}
use Rattle.std.specs.Map.{lookup}
use Rattle.std.specs.BTreeMap.{is_at}
use Rattle.std.specs.FinMap as map
use Rattle.giop_ids.specs.ById.{ById, put, weight_in, sum_of}
use Rattle.giop_ids.specs.Slots.{Becomes}
use Rattle.giop_ids.proofs.Puts.{same_tables, get-put_tied, get-put_other, eq_itself}
use Rattle.giop_ids.proofs.Sums.{sum_put, sum_remove, weight_within}
use Rattle.giop_ids.proofs.SlotLemmas as slots
use Rattle.giop_frag.specs.Gathered.{octets_in, blocks_for, blocks_of}
use Rattle.giop_frag.specs.Blocks.{Pooled, AreChained, AreWhole, block, once, times}
use Rattle.giop_frag.specs.Placed.{Placed, AreHeld, AreStanding, lists_at, numbers_in, pieces_at, places_of, times_in}
use Rattle.giop_frag.proofs.CountLemmas.{at_most_once}
use Rattle.giop_frag.proofs.LaidLemmas.{laid_same, length-chained}
use Rattle.giop_frag.proofs.TotalLemmas.{blocks_hold, blocks_put}

-- the place under an id is the one in its slot
itself : {X : Type 0} (slot : Option X) → option_and_then (λ x. Some x) slot ≡ slot
itself None = refl
itself (Some x) = refl

pub placed_at : (held : List (ℕ × Placed)) (id : ℕ) → map.get (places_of held) id ≡ lookup (is_at (nat_cmp id)) held
placed_at held id = slots.get_of (λ p. Some p) held id ∙ itself (lookup (is_at (nat_cmp id)) held)

pub lists-get : (blocks : List (List ℕ)) (held : List (ℕ × Placed)) (id : ℕ)
    → map.get (lists_at blocks held) id ≡ option_and_then (λ p. Some (pieces_at blocks p)) (lookup (is_at (nat_cmp id)) held)
lists-get blocks held id = slots.get_of (λ p. Some (pieces_at blocks p)) held id

-- what two values of a map weigh is among what all weigh
two_within : {V : Type 0} (weight : V → ℕ) (m : ById V) (one other : ℕ) → other ≢ one
    → weight_in weight (map.get m one) + weight_in weight (map.get m other) ≤ sum_of weight m
two_within weight m one other apart =
    let gone = sum_remove weight m one in
    let rest = weight_within weight (map.remove m one) other in
    let same = ap (weight_in weight) (get-put_other m one None other apart) in
    omega arith

-- a list's numbers are among those that stand
pub times_within : (pool : Pooled) (held : List (ℕ × Placed)) (id n : ℕ) → AreStanding pool held
    → times_in n (lookup (is_at (nat_cmp id)) held) + times n pool.free ≤ once n pool.blocks
times_within pool held id n standing =
    let all = standing.stands n in
    let among = weight_within (λ p. times n p.numbers) (places_of held) id in
    let is = ap (times_in n) (placed_at held id) in
    omega arith

-- where a list lies in whole blocks of its own
pub chained_at : (pool : Pooled) (held : List (ℕ × Placed)) (id : ℕ) (p : Placed) → AreStanding pool held
    → lookup (is_at (nat_cmp id)) held ≡ Some p → AreChained pool.blocks p.numbers p.size
chained_at pool held id p standing found =
    let count = standing.counts id p found in
    let hold = blocks_hold p.size in
    record {
      whole = standing.whole;
      apart = record {
        apart = λ n.
            let within = times_within pool held id n standing in
            let is = ap (times_in n) found in
            omega arith;
      };
      within = omega arith;
    }

-- a list has as many octets as are said
pub size_at : (pool : Pooled) (held : List (ℕ × Placed)) (id : ℕ) → AreStanding pool held
    → blocks_for (octets_in (map.get (lists_at pool.blocks held) id)) ≡ numbers_in (lookup (is_at (nat_cmp id)) held)
size_at pool held id standing =
    ap (λ s. blocks_for (octets_in s)) (lists-get pool.blocks held id) ∙ by_slot (lookup (is_at (nat_cmp id)) held) refl
  where
    by_slot : (slot : Option Placed) → lookup (is_at (nat_cmp id)) held ≡ slot
        → blocks_for (octets_in (option_and_then (λ p. Some (pieces_at pool.blocks p)) slot)) ≡ numbers_in slot
    by_slot None found = refl
    by_slot (Some p) found =
        ap blocks_for (length-chained pool.blocks p.numbers p.size (chained_at pool held id p standing found))
        ∙ sym (standing.counts id p found)

-- what stands in the slot that has changed
pub slot_now : (old new : List (ℕ × Placed)) (id : ℕ) (slot : Option Placed) → Becomes old new id slot → lookup (is_at (nat_cmp id)) new ≡ slot
slot_now old new id slot becomes =
    becomes id ∙ ap (λ r. cond (is_eq r) slot (lookup (is_at (nat_cmp id)) old)) (tied_itself nat_cmp_total id)

-- one slot has changed and the pool with it: the numbers that left one are in the other, and only
-- blocks of that list and free ones were written
pub record IsMoved (from to : Pooled) (old new : Option Placed) : Type 0 where
  pub stands : (n : ℕ) → times_in n new + times n to.free + once n from.blocks ≡ times_in n old + times n from.free + once n to.blocks
  pub free : numbers_in new + length to.free + length from.blocks ≡ numbers_in old + length from.free + length to.blocks
  pub others : (n : ℕ) → n < length from.blocks → times_in n old + times n from.free ≡ 0 → block to.blocks n ≡ block from.blocks n
  pub whole : AreWhole to.blocks
  pub count : (p : Placed) → new ≡ Some p → length p.numbers ≡ blocks_for p.size

-- a number that stands has a block
pub below_once : (n : ℕ) (blocks : List (List ℕ)) → 1 ≤ once n blocks → n < length blocks
below_once n blocks some = by_test (nat_lt n (length blocks)) (λ is. grind (arith, nat_tests)) some
  where
    by_test : (b : Bool) → (b ≡ true → n < length blocks) → 1 ≤ cond b 1 0 → n < length blocks
    by_test true below one = below refl
    by_test false below one = absurd (omega arith)

module _ (from to : Pooled) (old new : List (ℕ × Placed)) (id : ℕ) (slot : Option Placed)
    (standing : AreStanding from old) (becomes : Becomes old new id slot)
    (moved : IsMoved from to (lookup (is_at (nat_cmp id)) old) slot) where
  -- the other lists' octets stay
  other_pieces : (q : ℕ) (p : Placed) → q ≢ id → lookup (is_at (nat_cmp q)) old ≡ Some p
      → pieces_at to.blocks p ≡ pieces_at from.blocks p
  other_pieces q p apart found =
      ap (λ l. record { order = p.order; octets = take p.size l }) (laid_same from.blocks to.blocks p.numbers (λ n stands.
      let two = two_within (λ r. times n r.numbers) (places_of old) id q apart in
      let one_is = ap (times_in n) (placed_at old id) in
      let other_is = ap (times_in n) (placed_at old q ∙ found) in
      let all = standing.stands n in
      let most = at_most_once n from.blocks in
      moved.others n (below_once n from.blocks (omega arith)) (omega arith)))

  -- one list has changed
  pub lists_put : lists_at to.blocks new ≡ put (lists_at from.blocks old) id (option_and_then (λ p. Some (pieces_at to.blocks p)) slot)
  lists_put = same_tables _ _ (λ q.
      lists-get to.blocks new q
      ∙ ap (option_and_then (λ p. Some (pieces_at to.blocks p))) (becomes q)
      ∙ ap (λ b. option_and_then (λ p. Some (pieces_at to.blocks p)) (cond b slot (lookup (is_at (nat_cmp q)) old))) ((eq_by_cmp_equiv nat_cmp_total).symm id q)
      ∙ by_test q (eq_by_cmp nat_cmp q id) refl
      ∙ sym (get-put_tied (lists_at from.blocks old) id (option_and_then (λ p. Some (pieces_at to.blocks p)) slot) q))
    where
      others : (q : ℕ) → q ≢ id → (rest : Option Placed) → lookup (is_at (nat_cmp q)) old ≡ rest
          → option_and_then (λ p. Some (pieces_at to.blocks p)) rest ≡ option_and_then (λ p. Some (pieces_at from.blocks p)) rest
      others q apart None found = refl
      others q apart (Some p) found = ap (λ pieces. Some pieces) (other_pieces q p apart found)

      by_test : (q : ℕ) (b : Bool) → eq_by_cmp nat_cmp q id ≡ b
          → option_and_then (λ p. Some (pieces_at to.blocks p)) (cond b slot (lookup (is_at (nat_cmp q)) old))
          ≡ cond b (option_and_then (λ p. Some (pieces_at to.blocks p)) slot) (map.get (lists_at from.blocks old) q)
      by_test q true is = refl
      by_test q false is =
          others q (λ same. let tied = sym (unsigned_tied q id) ∙ is in let equal = ap (λ k. k == id) same ∙ eq_itself id in absurd cc)
          (lookup (is_at (nat_cmp q)) old) refl
          ∙ sym (lists-get from.blocks old q)

  -- each number stands once again
  standing_again : AreStanding to new
  standing_again = record {
    whole = moved.whole;
    stands = λ n.
        let places = slots.one_put (λ p. Some p) old new id slot becomes ∙ ap (put (places_of old) id) (itself slot) in
        let sum = ap (sum_of (λ p. times n p.numbers)) places in
        let change = sum_put (λ p. times n p.numbers) (places_of old) id slot in
        let here = ap (times_in n) (placed_at old id) in
        let before = standing.stands n in
        let moves = moved.stands n in
        omega arith;
    counts = λ q p found. by_test q p (is_at (nat_cmp id) q) (sym (becomes q) ∙ found);
  }
    where
      by_test : (q : ℕ) (p : Placed) (b : Bool) → cond b slot (lookup (is_at (nat_cmp q)) old) ≡ Some p → length p.numbers ≡ blocks_for p.size
      by_test q p true is = moved.count p is
      by_test q p false is = standing.counts q p is

  -- and the free blocks are those that no list needs
  pub held_again : length from.free + blocks_of (lists_at from.blocks old) ≡ length from.blocks → AreHeld to new
  held_again free =
      let change = blocks_put (lists_at from.blocks old) id (option_and_then (λ p. Some (pieces_at to.blocks p)) slot) in
      let all = ap blocks_of lists_put in
      let before = size_at from old id standing in
      let after = size_at to new id standing_again in
      let here = ap (λ s. blocks_for (octets_in s)) (lists-get to.blocks new id) in
      let is = slot_now old new id slot becomes in
      let numbers = ap numbers_in is in
      let shown = ap (λ s. blocks_for (octets_in (option_and_then (λ p. Some (pieces_at to.blocks p)) s))) is in
      let moves = moved.free in
      record { standing = standing_again; free = omega arith }
