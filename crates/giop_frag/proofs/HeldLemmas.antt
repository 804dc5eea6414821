-- The steps of a gatherer: how each leaves blocks and lists.
use Rattle.std.proofs.Common.{◌≡◌, ℕ, ◌+◌, ◌≤◌, ◌++◌, max, List, [], length, take, Option, Some, None, option_and_then, refl, sym, ap, ◌∙◌, arith, length-append}
use Rattle.std.specs.Option.{option_map}
use Rattle.std.specs.Ordering.{nat_cmp}
use Rattle.std.specs.Map.{lookup}
use Rattle.std.specs.BTreeMap.{is_at}
use Rattle.std.specs.FinMap as map
use Rattle.giop_cdr.specs.declared.order.Order.{Order}
use Rattle.giop_ids.specs.ById.{put}
use Rattle.giop_ids.specs.Slots.{Becomes}
use Rattle.giop_ids.proofs.Puts.{same_tables, put_same}
use Rattle.giop_ids.proofs.Sums.{weight_within}
use Rattle.giop_frag.specs.Gathered.{Pieces, Lists, grown, octets_in, blocks_for, blocks_of}
use Rattle.giop_frag.specs.Blocks.{Pooled, AreApart, AreChained, AreWhole, HasGrown, octets_at, once, times}
use Rattle.giop_frag.specs.Placed.{Placed, AreHeld, IsFilled, IsProvided, lists_at, pieces_at, times_in}
use Rattle.giop_frag.proofs.CountLemmas.{once_same, times-append}
use Rattle.giop_frag.proofs.LaidLemmas.{laid_same, length-chained}
use Rattle.giop_frag.proofs.TotalLemmas.{blocks_in, blocks_put}
use Rattle.giop_frag.proofs.PlacedLemmas.{IsMoved, below_once, chained_at, held_again, lists-get, lists_put, times_within}

-- the pool has changed and each number stands as often: what is held is held, and is the same
pub record Keeps (from to : Pooled) (old new : List (ℕ × Placed)) : Type 0 where
  pub held : AreHeld to new
  pub lists : lists_at to.blocks new ≡ lists_at from.blocks old

-- blocks were made
pub provided : (from to : Pooled) (held : List (ℕ × Placed)) → AreHeld from held → HasGrown from to → AreWhole to.blocks → Keeps from to held held
provided from to held are grown whole =
    let same = same_tables (lists_at to.blocks held) (lists_at from.blocks held) (λ id.
    lists-get to.blocks held id ∙ by_slot id (lookup (is_at (nat_cmp id)) held) refl ∙ sym (lists-get from.blocks held id)) in
    let needed = ap blocks_of same in
    let before = are.free in
    let more = grown.free in
    record {
      held = record {
        standing = record {
          whole = whole;
          stands = λ n. let all = are.standing.stands n in let now = grown.stands n in omega arith;
          counts = are.standing.counts;
        };
        free = omega arith;
      };
      lists = same;
    }
  where
    by_slot : (id : ℕ) (slot : Option Placed) → lookup (is_at (nat_cmp id)) held ≡ slot
        → option_and_then (λ p. Some (pieces_at to.blocks p)) slot ≡ option_and_then (λ p. Some (pieces_at from.blocks p)) slot
    by_slot id None found = refl
    by_slot id (Some p) found = ap (λ l. Some (record { order = p.order; octets = take p.size l })) (laid_same from.blocks to.blocks p.numbers (λ n stands.
        let within = times_within from held id n are.standing in
        let here = ap (times_in n) found in
        grown.kept n (below_once n from.blocks (omega arith))))

-- the list under an id has become another, or none
pub record Changes (from to : Pooled) (old new : List (ℕ × Placed)) (id : ℕ) (pieces : Option Pieces) : Type 0 where
  pub held : AreHeld to new
  pub lists : lists_at to.blocks new ≡ put (lists_at from.blocks old) id pieces

pub changed : (from to : Pooled) (old new : List (ℕ × Placed)) (id : ℕ) (before slot : Option Placed) → AreHeld from old
    → lookup (is_at (nat_cmp id)) old ≡ before → Becomes old new id slot → IsMoved from to before slot
    → Changes from to old new id (option_and_then (λ p. Some (pieces_at to.blocks p)) slot)
changed from to old new id before slot are found becomes moved =
    let here = rw (sym found) at moved in
    record {
      held = held_again from to old new id slot are.standing becomes here are.free;
      lists = lists_put from to old new id slot are.standing becomes here;
    }

-- the list under an id is what lies in its slot
pub pieces_found : (blocks : List (List ℕ)) (held : List (ℕ × Placed)) (id : ℕ) (slot : Option Placed)
    → lookup (is_at (nat_cmp id)) held ≡ slot → map.get (lists_at blocks held) id ≡ option_and_then (λ p. Some (pieces_at blocks p)) slot
pieces_found blocks held id slot found = lists-get blocks held id ∙ ap (option_and_then (λ p. Some (pieces_at blocks p))) found

-- octets were written behind those of a list
pub filled : (from to : Pooled) (old new : List (ℕ × Placed)) (id : ℕ) (p q : Placed) (more : List ℕ) → AreHeld from old
    → lookup (is_at (nat_cmp id)) old ≡ Some p → Becomes old new id (Some q) → IsFilled p from q to more
    → Changes from to old new id (grown (map.get (lists_at from.blocks old) id) more)
filled from to old new id p q more are found becomes fills =
    let number = fills.number in
    let free = fills.free in
    let all = changed from to old new id (Some p) (Some q) are found becomes (record {
      stands = λ n. let each = fills.stands n in let same = once_same n to.blocks from.blocks number in omega arith;
      free = omega arith;
      others = λ n below none. fills.others n none;
      whole = fills.whole;
      count = λ r is. counted r is;
    }) in
    let shown : Some (pieces_at to.blocks q) ≡ grown (map.get (lists_at from.blocks old) id) more =
    ap (λ o. Some (record { order = o; octets = octets_at to.blocks q.numbers q.size })) fills.order
    ∙ ap (λ l. Some (record { order = p.order; octets = l })) fills.octets
    ∙ ap (λ s. grown s more) (sym (pieces_found from.blocks old id (Some p) found)) in
    record { held = all.held; lists = all.lists ∙ ap (put (lists_at from.blocks old) id) shown }
  where
    counted : (r : Placed) → Some q ≡ Some r → length r.numbers ≡ blocks_for r.size
    counted r is = let same : q ≡ r = cc in let count = fills.count in ap (λ s. length s.numbers) (sym same) ∙ count ∙ ap (λ s. blocks_for s.size) same

-- a list has only got room
pub roomier : (pool : Pooled) (old new : List (ℕ × Placed)) (id : ℕ) (p q : Placed) → AreHeld pool old
    → lookup (is_at (nat_cmp id)) old ≡ Some p → Becomes old new id (Some q) → q ≡ record p { room = q.room } → Keeps pool pool old new
roomier pool old new id p q are found becomes same =
    let numbers : q.numbers ≡ p.numbers = ap (λ r. r.numbers) same in
    let size : q.size ≡ p.size = ap (λ r. r.size) same in
    let count = are.standing.counts id p found in
    let all = changed pool pool old new id (Some p) (Some q) are found becomes (record {
      stands = λ n. ap (λ l. times n l + times n pool.free + once n pool.blocks) numbers;
      free = ap (λ l. length l + length pool.free + length pool.blocks) numbers;
      others = λ n below none. refl;
      whole = are.standing.whole;
      count = λ r is. let q_is : q ≡ r = cc in
          ap (λ s. length s.numbers) (sym q_is) ∙ ap length numbers ∙ count ∙ ap blocks_for (sym size) ∙ ap (λ s. blocks_for s.size) q_is;
    }) in
    let shown : Some (pieces_at pool.blocks q) ≡ Some (pieces_at pool.blocks p) = ap (λ r. Some (pieces_at pool.blocks r)) same in
    record {
      held = all.held;
      lists = all.lists ∙ put_same (lists_at pool.blocks old) id (Some (pieces_at pool.blocks q)) (pieces_found pool.blocks old id (Some p) found ∙ sym shown);
    }

-- a list without octets was begun
pub begun : (pool : Pooled) (old new : List (ℕ × Placed)) (id : ℕ) (p : Placed) (order : Order) → AreHeld pool old
    → lookup (is_at (nat_cmp id)) old ≡ None → Becomes old new id (Some p) → p ≡ record { order = order; size = 0; numbers = []; room = p.room }
    → Changes pool pool old new id (Some (record { order = order; octets = [] }))
begun pool old new id p order are found becomes is =
    let numbers : p.numbers ≡ [] = ap (λ r. r.numbers) is in
    let size : p.size ≡ 0 = ap (λ r. r.size) is in
    let all = changed pool pool old new id None (Some p) are found becomes (record {
      stands = λ n. ap (λ l. times n l + times n pool.free + once n pool.blocks) numbers;
      free = ap (λ l. length l + length pool.free + length pool.blocks) numbers;
      others = λ n below none. refl;
      whole = are.standing.whole;
      count = λ r is_r. let p_is : p ≡ r = cc in
          ap (λ s. length s.numbers) (sym p_is) ∙ ap length numbers ∙ sym (ap blocks_for size) ∙ ap (λ s. blocks_for s.size) p_is;
    }) in
    record { held = all.held; lists = all.lists ∙ ap (λ r. put (lists_at pool.blocks old) id (Some (pieces_at pool.blocks r))) is }

-- a list was taken out, and its blocks are free
pub given_back : (pool to : Pooled) (old new : List (ℕ × Placed)) (id : ℕ) (p : Placed) (numbers : List ℕ) → AreHeld pool old
    → lookup (is_at (nat_cmp id)) old ≡ Some p → Becomes old new id None → numbers ≡ p.numbers
    → to ≡ record pool { free = pool.free ++ numbers } → Changes pool to old new id None
given_back pool to old new id p numbers are found becomes those now =
    let free = length-append pool.free p.numbers in
    let is : to ≡ record pool { free = pool.free ++ p.numbers } = now ∙ ap (λ l. record pool { free = pool.free ++ l }) those in
    rw is (changed pool (record pool { free = pool.free ++ p.numbers }) old new id (Some p) None are found becomes (record {
      stands = λ n. let both = times-append n pool.free p.numbers in omega arith;
      free = omega arith;
      others = λ n below none. refl;
      whole = are.standing.whole;
      count = λ r is. absurd cc;
    }))

-- there was none to take out
pub none_taken : (pool : Pooled) (old new : List (ℕ × Placed)) (id : ℕ) → AreHeld pool old
    → lookup (is_at (nat_cmp id)) old ≡ None → Becomes old new id None → Changes pool pool old new id None
none_taken pool old new id are found becomes =
    changed pool pool old new id None None are found becomes (record {
      stands = λ n. refl;
      free = refl;
      others = λ n below none. refl;
      whole = are.standing.whole;
      count = λ r is. absurd cc;
    })

-- there are at most as many blocks as there were or as are needed
pub most_blocks : (from to : Pooled) (m : Lists) (id wanted : ℕ) (held : Option Pieces) → length from.free + blocks_of m ≡ length from.blocks
    → IsProvided wanted from to → blocks_for (octets_in held) ≡ blocks_for (octets_in (map.get m id)) + wanted
    → (length from.blocks ≤ length to.blocks) × (length to.blocks ≤ max (length from.blocks) (blocks_of (put m id held)))
most_blocks from to m id wanted held before provides wants =
    let change = blocks_put m id held in
    let few = provides.few in
    let free = provides.grown.free in
    let more = provides.grown.more in
    (omega arith, omega arith)

-- and as many where they are held
pub as_many : (from between to : Pooled) (m : Lists) (id wanted : ℕ) (held : Option Pieces) (new : List (ℕ × Placed))
    → length from.free + blocks_of m ≡ length from.blocks → IsProvided wanted from between
    → blocks_for (octets_in held) ≡ blocks_for (octets_in (map.get m id)) + wanted → length to.blocks ≡ length between.blocks
    → AreHeld to new → lists_at to.blocks new ≡ put m id held → length to.blocks ≡ max (length from.blocks) (blocks_of (lists_at to.blocks new))
as_many from between to m id wanted held new before provides wants same are is =
    let most = most_blocks from between m id wanted held before provides wants in
    let least = most.0 in
    let upper = most.1 in
    let needed = ap blocks_of is in
    let free = are.free in
    omega arith

-- a list has as many octets as are said
pub size_found : (pool : Pooled) (held : List (ℕ × Placed)) (id : ℕ) (p : Placed) → AreHeld pool held
    → lookup (is_at (nat_cmp id)) held ≡ Some p → octets_in (map.get (lists_at pool.blocks held) id) ≡ p.size
size_found pool held id p are found =
    ap octets_in (pieces_found pool.blocks held id (Some p) found)
    ∙ length-chained pool.blocks p.numbers p.size (chained_at pool held id p are.standing found)

-- there is room for its numbers among the free ones
pub back_fits : (pool : Pooled) (held : List (ℕ × Placed)) (id : ℕ) (p : Placed) → AreHeld pool held
    → lookup (is_at (nat_cmp id)) held ≡ Some p → length pool.free + length p.numbers ≤ length pool.blocks
back_fits pool held id p are found =
    let among = weight_within (λ r. blocks_for (length r.octets)) (lists_at pool.blocks held) id in
    let here = blocks_in (map.get (lists_at pool.blocks held) id) in
    let size = ap blocks_for (size_found pool held id p are found) in
    let count = are.standing.counts id p found in
    let free = are.free in
    omega arith

-- its numbers and the free ones are apart
pub apart_found : (pool : Pooled) (held : List (ℕ × Placed)) (id : ℕ) (p : Placed) → AreHeld pool held
    → lookup (is_at (nat_cmp id)) held ≡ Some p → AreApart pool.blocks (p.numbers ++ pool.free)
apart_found pool held id p are found = record {
  apart = λ n.
      let within = times_within pool held id n are.standing in
      let here = ap (times_in n) found in
      let both = times-append n p.numbers pool.free in
      omega arith;
}

-- an id that has no list has no slot
pub none_found : (blocks : List (List ℕ)) (held : List (ℕ × Placed)) (id : ℕ) → map.get (lists_at blocks held) id ≡ None
    → lookup (is_at (nat_cmp id)) held ≡ None
none_found blocks held id none = by_slot (lookup (is_at (nat_cmp id)) held) (sym (lists-get blocks held id) ∙ none)
  where
    by_slot : (slot : Option Placed) → option_and_then (λ p. Some (pieces_at blocks p)) slot ≡ None → slot ≡ None
    by_slot None is = refl
    by_slot (Some p) is = absurd cc

-- a list lies in whole blocks of its own
pub chained_as : (pool : Pooled) (held : List (ℕ × Placed)) (id : ℕ) (p : Placed) (numbers : List ℕ) (size : ℕ) → AreHeld pool held
    → lookup (is_at (nat_cmp id)) held ≡ Some p → numbers ≡ p.numbers → size ≡ p.size → AreChained pool.blocks numbers size
chained_as pool held id p numbers size are found those many =
    rw (those, many) (chained_at pool held id p are.standing found)

-- what is told of a list
pub chain_shown : (blocks : List (List ℕ)) (held : List (ℕ × Placed)) (id : ℕ) (p : Placed) (order : Order) (numbers : List ℕ) (size : ℕ) (octets : List ℕ)
    → lookup (is_at (nat_cmp id)) held ≡ Some p → order ≡ p.order → numbers ≡ p.numbers → size ≡ p.size
    → octets ≡ octets_at blocks numbers size
    → let shown : Option (Order × List ℕ) = Some (order, octets) in shown ≡ option_map (λ q. (q.order, q.octets)) (map.get (lists_at blocks held) id)
chain_shown blocks held id p order numbers size octets found is_order those many lie =
    let show : Order → List ℕ → Option (Order × List ℕ) = λ o l. Some (o, l) in
    ap (λ o. show o octets) is_order
    ∙ ap (show p.order) (lie ∙ ap (λ ns. octets_at blocks ns size) those ∙ ap (octets_at blocks p.numbers) many)
    ∙ sym (ap (option_map (λ q. (q.order, q.octets))) (pieces_found blocks held id (Some p) found))
