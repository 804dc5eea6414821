-- The count of all octets, and the limits that are kept, after a call.
use Rattle.std.proofs.Common.{◌≡◌, ℕ, ◌≤◌, ◌+◌, ◌-◌, ◌^◌, nat_lt, true, false, Bool, cond, List, [], length, Option, Some, None, IfSome, refl, sym, ap, ◌∙◌, arith, inl, inr, ◌⊎◌}
use Rattle.std.proofs.lemmas.Bool.Decides.{nat_tests}
use Rattle.std.specs.Option.{option_map}
use Rattle.std.specs.FinMap as map
use Rattle.giop_cdr.specs.declared.order.Order.{Order}
use Rattle.giop_ids.specs.ById.{put}
use Rattle.giop_ids.specs.Runs.{RefusedAs}
use Rattle.giop_ids.proofs.Sums.{sum_empty, weight_within}
use Rattle.giop_frag.specs.declared.fault.GatherFault.{GatherFault}
use Rattle.giop_frag.specs.declared.fault.GatherFault.TheVariants.{Stray, OrderDiffers, GatherFull, NoMemory}
use Rattle.giop_frag.specs.Gathered.{Gathered, Lists, Pieces, grown, octets_in, total_of, blocks_for, blocks_of, blocks_after, is_over, add_fault_by, room_fault, same_order, first_fault, IsBlocksAfter}
use Rattle.giop_frag.specs.Blocks.{Pooled, once, times}
use Rattle.giop_frag.specs.Placed.{Placed, AreHeld, IsTable, lists_at}
use Rattle.giop_frag.proofs.TotalLemmas.{total_put, blocks_within_total, octets_in-grown, no_fault}

-- a gatherer's lists are within its limit
pub within_limit : (limit total : ℕ) (pool : Pooled) (held : List (ℕ × Placed)) → IsTable limit total pool held
    → total_of (lists_at pool.blocks held) ≤ limit
within_limit limit total pool held table = let counted = table.counted in let within = table.within in omega arith

-- nothing is gathered as yet
pub no_octets : (limit : ℕ) (pool : Pooled) (held : List (ℕ × Placed)) → limit ≤ 2 ^ 62 → pool ≡ record { blocks = []; free = [] } → held ≡ []
    → IsTable limit 0 pool held
no_octets limit pool held small fresh none = rw (fresh, none) (record {
  held = record {
    standing = record {
      whole = record { whole = λ n below. absurd (omega arith) };
      stands = λ n.
          let nothing = sum_empty (λ (p : Placed). times n p.numbers) in
          let below : nat_lt n 0 ≡ false = grind (arith, nat_tests) in
          let once_none : once n [] ≡ 0 = ap (λ b. cond b 1 0) below in
          omega arith;
      counts = λ id p found. absurd cc;
    };
    free = let nothing = sum_empty (λ (p : Pieces). blocks_for (length p.octets)) in omega arith;
  };
  counted = sym (sum_empty (λ (p : Pieces). length p.octets));
  within = omega arith;
  few = omega arith;
  small = small;
})

-- where there was room for octets that came, all is within the limit
pub fits : (limit : ℕ) (m : Lists) (id n : ℕ) (held : Option Pieces) → is_over limit m n ≡ false
    → octets_in held ≡ octets_in (map.get m id) + n
    → (total_of (put m id held) ≡ total_of m + n) × (total_of (put m id held) ≤ limit) × (blocks_of (put m id held) ≤ limit)
fits limit m id n held room grows =
    let is : nat_lt limit (total_of m + n) ≡ false = room in
    let most : total_of m + n ≤ limit = grind (arith, nat_tests) in
    let sum = total_put m id held in
    let few = blocks_within_total (put m id held) in
    (omega arith, omega arith, omega arith)

-- octets were joined or begun with
pub more_octets : (limit total : ℕ) (from to : Pooled) (old new : List (ℕ × Placed)) (id n : ℕ) (held : Option Pieces)
    → IsTable limit total from old → AreHeld to new → lists_at to.blocks new ≡ put (lists_at from.blocks old) id held
    → octets_in held ≡ octets_in (map.get (lists_at from.blocks old) id) + n
    → length to.blocks ≡ blocks_after (length from.blocks) (lists_at to.blocks new)
    → is_over limit (lists_at from.blocks old) n ≡ false → IsTable limit (total + n) to new
more_octets limit total from to old new id n held table are puts grows number room =
    let fitting = fits limit (lists_at from.blocks old) id n held room grows in
    let one = fitting.0 in
    let two = fitting.1 in
    let three = fitting.2 in
    let sum = ap total_of puts in
    let needed = ap blocks_of puts in
    let counted = table.counted in
    let few = table.few in
    record {
      held = are;
      counted = omega arith;
      within = omega arith;
      few = omega arith;
      small = table.small;
    }

-- a refusal leaves no more blocks than before, or, for want of memory, than fit
pub few_left : (fault : GatherFault) (old new limit : ℕ) (m : Lists) → IsBlocksAfter fault old m new → old ≤ limit
    → (fault ≡ NoMemory → blocks_of m ≤ limit) → new ≤ limit
few_left Stray old new limit m same few most = let is : new ≡ old = same in omega arith
few_left OrderDiffers old new limit m same few most = let is : new ≡ old = same in omega arith
few_left GatherFull old new limit m same few most = let is : new ≡ old = same in omega arith
few_left NoMemory old new limit m between few most = let upper = between.1 in let fit = most refl in omega arith

-- the lists are as they were
pub same_octets : (limit total : ℕ) (from to : Pooled) (old new : List (ℕ × Placed)) → IsTable limit total from old → AreHeld to new
    → lists_at to.blocks new ≡ lists_at from.blocks old → length to.blocks ≤ limit → IsTable limit total to new
same_octets limit total from to old new table are same few = record {
  held = are;
  counted = table.counted ∙ sym (ap total_of same);
  within = table.within;
  few = few;
  small = table.small;
}

-- want of memory is not what the octets of an id are refused for
found_nothing : (over : Bool) (held : Option Pieces) (order : Order) → RefusedAs NoMemory NoMemory (add_fault_by over held order)
    → add_fault_by over held order ≡ None
found_nothing over None order why = elim why [ inl is ↦ absurd cc | inr none ↦ none.1 ]
found_nothing over (Some p) order why = by_tests over (same_order order p.order) why
  where
    by_tests : (b same : Bool) → (first_fault (cond same None (Some OrderDiffers)) (room_fault b) ≡ Some NoMemory)
        ⊎ ((NoMemory ≡ NoMemory) × (first_fault (cond same None (Some OrderDiffers)) (room_fault b) ≡ None))
        → first_fault (cond same None (Some OrderDiffers)) (room_fault b) ≡ None
    by_tests b same (inl is) = never b same is
      where
        never : (b same : Bool) → first_fault (cond same None (Some OrderDiffers)) (room_fault b) ≡ Some NoMemory
            → first_fault (cond same None (Some OrderDiffers)) (room_fault b) ≡ None
        never true true is = absurd cc
        never true false is = absurd cc
        never false true is = refl
        never false false is = absurd cc
    by_tests b same (inr none) = none.1

-- where octets are not joined for want of memory alone, their blocks would be within the limit
pub memory_fits : (fault : GatherFault) (limit : ℕ) (m : Lists) (id : ℕ) (order : Order) (more : List ℕ) (over : Bool)
    → over ≡ is_over limit m (length more) → RefusedAs NoMemory fault (add_fault_by over (map.get m id) order) → fault ≡ NoMemory
    → blocks_of (put m id (grown (map.get m id) more)) ≤ limit
memory_fits fault limit m id order more over asked why memory =
    let none = found_nothing over (map.get m id) order (rw memory at why) in
    let sound = no_fault over (map.get m id) order none in
    (fits limit m id (length more) (grown (map.get m id) more) (sym asked ∙ sound.1) (octets_in-grown (map.get m id) more sound.0)).2

-- octets were joined
pub joined_octets : (limit total : ℕ) (from to : Pooled) (old new : List (ℕ × Placed)) (id : ℕ) (order : Order) (more : List ℕ) (over : Bool)
    → IsTable limit total from old → AreHeld to new
    → lists_at to.blocks new ≡ put (lists_at from.blocks old) id (grown (map.get (lists_at from.blocks old) id) more)
    → length to.blocks ≡ blocks_after (length from.blocks) (lists_at to.blocks new)
    → over ≡ is_over limit (lists_at from.blocks old) (length more)
    → add_fault_by over (map.get (lists_at from.blocks old) id) order ≡ None → IsTable limit (total + length more) to new
joined_octets limit total from to old new id order more over table are puts number asked none =
    let sound = no_fault over (map.get (lists_at from.blocks old) id) order none in
    more_octets limit total from to old new id (length more) _ table are puts
    (octets_in-grown (map.get (lists_at from.blocks old) id) more sound.0) number (sym asked ∙ sound.1)

-- the octets under an id are among all
pub octets_within : (limit total id : ℕ) (pool : Pooled) (held : List (ℕ × Placed)) → IsTable limit total pool held
    → (octets_in (map.get (lists_at pool.blocks held) id) ≤ total) × (octets_in (map.get (lists_at pool.blocks held) id) ≤ limit)
octets_within limit total id pool held table =
    let among = weight_within (λ p. length p.octets) (lists_at pool.blocks held) id in
    let counted = table.counted in
    let within = table.within in
    (omega arith, omega arith)

-- where there is room for more, there is for those of one id with them
pub small_enough : (limit total id n : ℕ) (pool : Pooled) (held : List (ℕ × Placed)) → IsTable limit total pool held
    → is_over limit (lists_at pool.blocks held) n ≡ false → octets_in (map.get (lists_at pool.blocks held) id) + n ≤ 2 ^ 62
small_enough limit total id n pool held table room =
    let is : nat_lt limit (total_of (lists_at pool.blocks held) + n) ≡ false = room in
    let most : total_of (lists_at pool.blocks held) + n ≤ limit = grind (arith, nat_tests) in
    let among = weight_within (λ p. length p.octets) (lists_at pool.blocks held) id in
    let small = table.small in
    omega arith

-- octets were taken out
pub less_octets : (limit total n id : ℕ) (from to : Pooled) (old new : List (ℕ × Placed)) → IsTable limit total from old → AreHeld to new
    → n ≡ octets_in (map.get (lists_at from.blocks old) id) → lists_at to.blocks new ≡ map.remove (lists_at from.blocks old) id
    → length to.blocks ≡ length from.blocks → IsTable limit (total - n) to new
less_octets limit total n id from to old new table are is_n removed number =
    let sum = total_put (lists_at from.blocks old) id None in
    let now = ap total_of removed in
    let counted = table.counted in
    let within = table.within in
    let few = table.few in
    record {
      held = are;
      counted = omega arith;
      within = omega arith;
      few = omega arith;
      small = table.small;
    }

-- what is asked of a gatherer is what its lists say
pub asked_of : (limit n : ℕ) (blocks : ℕ) (m : Lists) (over : Bool) (g : Gathered) → record { limit = limit; blocks = blocks; lists = m } ≡ g
    → over ≡ is_over g.limit g.lists n → over ≡ is_over limit m n
asked_of limit n blocks m over g seen asked = asked ∙ ap (λ k. is_over k.limit k.lists n) (sym seen)

-- a list that is found is within the limit
pub found_within : (bound : ℕ) (slot : Option Pieces) (found : Option (Order × List ℕ)) → octets_in slot ≤ bound
    → found ≡ option_map (λ p. (p.order, p.octets)) slot → IfSome found (λ f. length f.1 ≤ bound)
found_within bound None found within is = rw is tt
found_within bound (Some p) found within is = rw is within

-- what is under no id is nothing
pub from_nothing : (m : Lists) (id : ℕ) (order : Order) (octets : List ℕ) → map.get m id ≡ None
    → octets_in (Some (record { order = order; octets = octets })) ≡ octets_in (map.get m id) + length octets
from_nothing m id order octets none = let nothing : octets_in (map.get m id) ≡ 0 = ap octets_in none in omega arith
