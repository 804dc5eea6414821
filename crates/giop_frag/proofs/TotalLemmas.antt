-- The number of all gathered octets, and of the blocks that they need, after one list has changed.
use Rattle.std.proofs.Common.{◌≡◌, ◌≢◌, ℕ, ◌+◌, ◌-◌, ◌*◌, ◌/◌, ◌%◌, max, ◌≤◌, ◌<◌, ◌++◌, Bool, true, false, List, length, Option, Some, None, is_some, refl, sym, ap, ◌∙◌, arith, length-append, lit<}
use Rattle.std.proofs.Common as common
use Rattle.std.proofs.lemmas.Nat.{div-add-mod'}
use Rattle.std.proofs.Math.Nat.{mod-lt}
use Rattle.std.specs.FinMap as map
use Rattle.giop_cdr.specs.declared.order.Order.{Order}
use Rattle.giop_ids.specs.ById.{put, weight_in}
use Rattle.giop_ids.proofs.Sums.{sum_put, sum_scaled}
use Rattle.giop_frag.specs.declared.fault.GatherFault.{GatherFault}
use Rattle.giop_frag.specs.declared.fault.GatherFault.TheVariants.{Stray, OrderDiffers, GatherFull, NoMemory}
use Rattle.giop_frag.specs.Gathered.{Pieces, Lists, grown, octets_in, total_of, blocks_for, blocks_of, blocks_after, IsBlocksAfter, same_order, room_fault, first_fault, add_fault_by}

-- a list that is there grows by what is added
pub octets_in-grown : (held : Option Pieces) (more : List ℕ) → is_some held ≡ true
    → octets_in (grown held more) ≡ octets_in held + length more
octets_in-grown None more there = absurd cc
octets_in-grown (Some p) more there = length-append p.octets more

-- n octets need at most n blocks, and these hold at most 511 octets more
pub scaled_blocks : (n : ℕ) → blocks_for n * 512 ≤ n + 511
scaled_blocks n = let parts = div-add-mod' (n + 511) 512 in omega arith

pub blocks_for_few : (n : ℕ) → blocks_for n ≤ n
blocks_for_few n = let scaled = scaled_blocks n in omega arith

-- more octets need no fewer blocks
pub blocks_for_more : (n more : ℕ) → blocks_for n ≤ blocks_for (n + more)
blocks_for_more n more =
    let one = div-add-mod' (n + 511) 512 in
    let two = div-add-mod' (n + more + 511) 512 in
    let rest = mod-lt (n + more + 511) {m = 512} (lit< tt) in
    omega arith

-- they have room for these
pub blocks_hold : (size : ℕ) → size ≤ 512 * blocks_for size
blocks_hold size =
    let parts = div-add-mod' (size + 511) 512 in
    let rest = mod-lt (size + 511) {m = 512} (lit< tt) in
    omega arith

-- the blocks of a list are those of its octets
pub blocks_in : (held : Option Pieces) → weight_in (λ p. blocks_for (length p.octets)) held ≡ blocks_for (octets_in held)
blocks_in None = refl
blocks_in (Some p) = refl

-- what a list that changes adds to the octets, and to the blocks
pub total_put : (m : Lists) (id : ℕ) (held : Option Pieces)
    → total_of (put m id held) + octets_in (map.get m id) ≡ total_of m + octets_in held
total_put m id held = sum_put (λ p. length p.octets) m id held

pub blocks_put : (m : Lists) (id : ℕ) (held : Option Pieces)
    → blocks_of (put m id held) + blocks_for (octets_in (map.get m id)) ≡ blocks_of m + blocks_for (octets_in held)
blocks_put m id held =
    let sum = sum_put (λ p. blocks_for (length p.octets)) m id held in
    let before = blocks_in (map.get m id) in
    let after = blocks_in held in
    omega arith

-- lists need no more blocks than they have octets
pub blocks_within_total : (m : Lists) → blocks_of m ≤ total_of m
blocks_within_total m =
    let scaled = sum_scaled (λ p. blocks_for (length p.octets)) (λ p. length p.octets) 1 0
    (λ p. let few = blocks_for_few (length p.octets) in omega arith) m in
    omega arith

-- and no more than fit the octets, and one for each list
pub blocks_need : (m : Lists) → blocks_of m ≤ total_of m / 512 + map.len m
blocks_need m =
    let scaled = sum_scaled (λ p. blocks_for (length p.octets)) (λ p. length p.octets) 512 511 (λ p. scaled_blocks (length p.octets)) m in
    let parts = div-add-mod' (total_of m) 512 in
    let rest = mod-lt (total_of m) {m = 512} (lit< tt) in
    omega arith

-- so while there are no more ids than so many, there are no more blocks
pub blocks_kept : (limit ids blocks : ℕ) (m : Lists) → total_of m ≤ limit → map.len m ≤ ids → blocks ≤ limit / 512 + ids
    → blocks_after blocks m ≤ limit / 512 + ids
blocks_kept limit ids blocks m fits few had =
    let need = blocks_need m in
    let one = div-add-mod' (total_of m) 512 in
    let two = div-add-mod' limit 512 in
    let rest = mod-lt limit {m = 512} (lit< tt) in
    omega arith

-- a refusal leaves the blocks between those before and those needed
pub blocks_refused : (fault : GatherFault) (old new : ℕ) (m : Lists) → IsBlocksAfter fault old m new
    → (old ≤ new) × (new ≤ blocks_after old m) × (fault ≢ NoMemory → new ≡ old)
blocks_refused Stray old new m same = let is : new ≡ old = same in (omega arith, omega arith, λ other. same)
blocks_refused OrderDiffers old new m same = let is : new ≡ old = same in (omega arith, omega arith, λ other. same)
blocks_refused GatherFull old new m same = let is : new ≡ old = same in (omega arith, omega arith, λ other. same)
blocks_refused NoMemory old new m between = (between.0, between.1, λ other. absurd (other refl))

-- where there is no fault the id is there and there is room
pub no_fault : (over : Bool) (held : Option Pieces) (order : Order) → add_fault_by over held order ≡ None
    → (is_some held ≡ true) × (over ≡ false)
no_fault over None order none = absurd cc
no_fault over (Some p) order none = (refl, by_tests over (same_order order p.order) none)
  where
    by_tests : (b same : Bool) → first_fault (common.cond same None (Some OrderDiffers)) (room_fault b) ≡ None → b ≡ false
    by_tests false same is = refl
    by_tests true true is = absurd cc
    by_tests true false is = absurd cc
