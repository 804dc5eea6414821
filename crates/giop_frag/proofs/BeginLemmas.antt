-- A call that begins a list: what it leaves, whatever it answers.
use Rattle.std.proofs.Common.{◌≡◌, ℕ, ◌+◌, ◌≤◌, ◌^◌, max, List, [], length, Some, None, is_some, Result, Ok, Err, OnOk, OnErr, IfErr, sym, ap, ◌∙◌, arith}
use Rattle.std.specs.Ordering.{nat_cmp}
use Rattle.std.specs.Map.{lookup}
use Rattle.std.specs.BTreeMap.{is_at}
use Rattle.std.specs.FinMap as map
use Rattle.giop_cdr.specs.declared.order.Order.{Order}
use Rattle.giop_ids.specs.ById.{put}
use Rattle.giop_ids.proofs.Puts.{get-put_same, put-put}
use Rattle.giop_frag.specs.declared.fault.GatherFault.{GatherFault}
use Rattle.giop_frag.specs.declared.fault.GatherFault.TheVariants.{NoMemory}
use Rattle.giop_frag.specs.Gathered.{Lists, grown, octets_in, blocks_after, blocks_for, blocks_of, IsBlocksAfter}
use Rattle.giop_frag.specs.Blocks.{Pooled}
use Rattle.giop_frag.specs.Placed.{Placed, AreHeld, IsOpened, IsProvided, IsReady, lists_at}
use Rattle.giop_frag.proofs.HeldLemmas.{Keeps, as_many, begun, most_blocks, none_found, provided}
use Rattle.giop_frag.proofs.PlacedLemmas.{slot_now}

-- what is under no id needs no block
wants_all : (m : Lists) (id : ℕ) (order : Order) (octets : List ℕ) (wanted : ℕ) → map.get m id ≡ None → wanted ≡ blocks_for (length octets)
    → blocks_for (octets_in (Some (record { order = order; octets = octets }))) ≡ blocks_for (octets_in (map.get m id)) + wanted
wants_all m id order octets wanted none is_wanted =
    let nothing : blocks_for (octets_in (map.get m id)) ≡ 0 = ap (λ s. blocks_for (octets_in s)) none in omega arith

-- a list was opened, in a pool that has grown for it
pub opened : (from to : Pooled) (old new : List (ℕ × Placed)) (id wanted : ℕ) (order : Order) → AreHeld from old
    → map.get (lists_at from.blocks old) id ≡ None → IsProvided wanted from to → IsOpened to old new id order wanted
    → AreHeld to new × (lists_at to.blocks new ≡ put (lists_at from.blocks old) id (Some (record { order = order; octets = [] })))
opened from to old new id wanted order are absent provides opens =
    let first = provided from to old are provides.grown provides.whole in
    let none = none_found from.blocks old id absent in
    let second = begun to old new id opens.place order first.held none opens.becomes opens.empty in
    (second.held, second.lists ∙ ap (λ m. put m id (Some (record { order = order; octets = [] }))) first.lists)

-- it can be filled
pub is_ready : (to : Pooled) (old new : List (ℕ × Placed)) (id : ℕ) (order : Order) (octets : List ℕ) (wanted : ℕ)
    → IsOpened to old new id order wanted → wanted ≡ blocks_for (length octets) → length octets ≤ 2 ^ 62
    → IsReady to (lookup (is_at (nat_cmp id)) new) (length octets)
is_ready to old new id order octets wanted opens is_wanted fits =
    let is = slot_now old new id (Some opens.place) opens.becomes in
    let size : opens.place.size ≡ 0 = ap (λ p. p.size) opens.empty in
    let numbers : length opens.place.numbers ≡ 0 = ap (λ p. length p.numbers) opens.empty in
    let whole : blocks_for (opens.place.size + length octets) ≡ blocks_for (length octets) = ap blocks_for (omega arith) in
    let room = opens.room in
    let free = opens.free in
    record {
      there = ap is_some is;
      small = λ p found. let same : opens.place ≡ p = cc in let size_of = ap (λ q. q.size) same in omega arith;
      free = λ p found. let same : opens.place ≡ p = cc in rw (sym same) (omega arith);
      room = λ p found. let same : opens.place ≡ p = cc in rw (sym same) (omega arith);
    }

-- what an accepted call leaves
pub record IsBegun (from to : Pooled) (old new : List (ℕ × Placed)) (id : ℕ) (order : Order) (octets : List ℕ) : Type 0 where
  pub ok : lists_at to.blocks new ≡ put (lists_at from.blocks old) id (Some (record { order = order; octets = octets }))
  pub number : length to.blocks ≡ max (length from.blocks) (blocks_of (lists_at to.blocks new))

-- a list was opened and filled
pub begun_by : (from between to : Pooled) (old mid new : List (ℕ × Placed)) (id : ℕ) (order : Order) (octets : List ℕ) (wanted : ℕ) → AreHeld from old
    → map.get (lists_at from.blocks old) id ≡ None → IsProvided wanted from between → IsOpened between old mid id order wanted
    → wanted ≡ blocks_for (length octets) → AreHeld to new
    → lists_at to.blocks new ≡ put (lists_at between.blocks mid) id (grown (map.get (lists_at between.blocks mid) id) octets)
    → length to.blocks ≡ length between.blocks → IsBegun from to old new id order octets
begun_by from between to old mid new id order octets wanted are absent provides opens is_wanted held lists same =
    let empty = Some (record { order = order; octets = [] }) in
    let full = Some (record { order = order; octets = octets }) in
    let first = opened from between old mid id wanted order are absent provides opens in
    let ok =
    lists
    ∙ ap (λ k. put k id (grown (map.get k id) octets)) first.1
    ∙ ap (λ h. put (put (lists_at from.blocks old) id empty) id (grown h octets)) (get-put_same (lists_at from.blocks old) id empty)
    ∙ put-put (lists_at from.blocks old) id empty full in
    record {
      ok = ok;
      number = as_many from between to (lists_at from.blocks old) id wanted full new are.free provides
          (wants_all (lists_at from.blocks old) id order octets wanted absent is_wanted) same held ok;
    }

-- a refusal leaves lists as they were, and no more blocks than are wanted
pub refused_by : (from to : Pooled) (old new : List (ℕ × Placed)) (id : ℕ) (order : Order) (octets : List ℕ) (wanted : ℕ) → AreHeld from old
    → map.get (lists_at from.blocks old) id ≡ None → IsProvided wanted from to → wanted ≡ blocks_for (length octets) → new ≡ old
    → Keeps from to old new × ((length from.blocks ≤ length to.blocks)
    × (length to.blocks ≤ max (length from.blocks) (blocks_of (put (lists_at from.blocks old) id (Some (record { order = order; octets = octets }))))))
refused_by from to old new id order octets wanted are absent provides is_wanted same = (
  rw same (provided from to old are provides.grown provides.whole),
  most_blocks from to (lists_at from.blocks old) id wanted (Some (record { order = order; octets = octets })) are.free provides
      (wants_all (lists_at from.blocks old) id order octets wanted absent is_wanted),
)

-- what holds of want of memory holds of the fault that is it
pub left_by : (r : Result (Unit {0}) GatherFault) (old new : ℕ) (m : Lists) → IfErr r (λ fault. fault ≡ NoMemory)
    → (old ≤ new) × (new ≤ blocks_after old m) → IfErr r (λ fault. IsBlocksAfter fault old m new)
left_by (Ok done) old new m is between = tt
left_by (Err fault) old new m is between = rw is between

-- what holds anyway holds where a result is Err
pub OnErr_of : {T E P : Type 0} (r : Result T E) → P → OnErr r P
OnErr_of (Ok x) p = tt
OnErr_of (Err e) p = p

-- what holds where a result is Ok, of one that is
pub ok_part : {T E P : Type 0} (r : Result T E) (x : T) → r ≡ Ok x → OnOk r P → P
ok_part (Ok x) y is h = h
ok_part (Err e) y is h = absurd cc

-- and where it is Err
pub err_part : {T E P : Type 0} (r : Result T E) (e : E) → r ≡ Err e → OnErr r P → P
err_part (Ok x) e is h = absurd cc
err_part (Err e) f is h = h
