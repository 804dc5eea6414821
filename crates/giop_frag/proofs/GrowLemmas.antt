-- A call that joins octets to those under an id: what it leaves, whatever it answers.
use Rattle.std.proofs.Common.{◌≡◌, ℕ, ◌+◌, Bool, List, length, Some, None, is_some, Result, Ok, Err, OnOk, OnErr, IfErr, refl, ap, ◌∙◌, arith}
use Rattle.std.specs.Ordering.{nat_cmp}
use Rattle.std.specs.Map.{lookup}
use Rattle.std.specs.BTreeMap.{is_at}
use Rattle.std.specs.FinMap as map
use Rattle.giop_cdr.specs.declared.order.Order.{Order}
use Rattle.giop_ids.specs.ById.{put}
use Rattle.giop_ids.specs.Runs.{RefusedAs}
use Rattle.giop_ids.specs.Slots.{Becomes}
use Rattle.giop_frag.specs.declared.fault.GatherFault.{GatherFault}
use Rattle.giop_frag.specs.declared.fault.GatherFault.TheVariants.{Stray, OrderDiffers, GatherFull, NoMemory}
use Rattle.giop_frag.specs.Gathered.{grown, octets_in, blocks_for, blocks_after, add_fault_by, IsBlocksAfter}
use Rattle.giop_frag.specs.Blocks.{Pooled}
use Rattle.giop_frag.specs.Placed.{Placed, AreHeld, IsJoinedTo, IsLeft, IsProvided, lacking, lists_at, pieces_at}
use Rattle.giop_frag.proofs.TotalLemmas.{blocks_for_more, octets_in-grown}
use Rattle.giop_frag.proofs.HeldLemmas.{Keeps, as_many, filled, most_blocks, pieces_found, provided, roomier, size_found}

-- what such a call leaves: its clauses
pub record Grows (from to : Pooled) (old new : List (ℕ × Placed)) (over : Bool) (id : ℕ) (order : Order) (more : List ℕ)
    (r : Result (Unit {0}) GatherFault) : Type 0 where
  pub held : AreHeld to new
  pub ok : OnOk r (lists_at to.blocks new ≡ put (lists_at from.blocks old) id (grown (map.get (lists_at from.blocks old) id) more))
  pub number : OnOk r (length to.blocks ≡ blocks_after (length from.blocks) (lists_at to.blocks new))
  pub only : OnOk r (add_fault_by over (map.get (lists_at from.blocks old) id) order ≡ None)
  pub err : IfErr r (λ fault. RefusedAs NoMemory fault (add_fault_by over (map.get (lists_at from.blocks old) id) order))
  pub kept : OnErr r (lists_at to.blocks new ≡ lists_at from.blocks old)
  pub left : IfErr r (λ fault. IsBlocksAfter fault (length from.blocks)
      (put (lists_at from.blocks old) id (grown (map.get (lists_at from.blocks old) id) more)) (length to.blocks))

-- a list that grows needs the blocks that it lacks
wants : (pool : Pooled) (held : List (ℕ × Placed)) (id : ℕ) (p : Placed) (more : List ℕ) → AreHeld pool held
    → lookup (is_at (nat_cmp id)) held ≡ Some p
    → blocks_for (octets_in (grown (map.get (lists_at pool.blocks held) id) more))
    ≡ blocks_for (octets_in (map.get (lists_at pool.blocks held) id)) + lacking p (length more)
wants pool held id p more are found =
    let there = ap is_some (pieces_found pool.blocks held id (Some p) found) in
    let size = size_found pool held id p are found in
    let longer = octets_in-grown (map.get (lists_at pool.blocks held) id) more there in
    let first = ap blocks_for size in
    let second = ap blocks_for (longer ∙ ap (λ k. k + length more) size) in
    let count = are.standing.counts id p found in
    let no_fewer = blocks_for_more p.size (length more) in
    omega arith

-- a refusal leaves lists as they were, and no more blocks than are wanted
refused : (fault : GatherFault) (from to : Pooled) (old : List (ℕ × Placed)) (id : ℕ) (p : Placed) (more : List ℕ) → AreHeld from old
    → lookup (is_at (nat_cmp id)) old ≡ Some p → IsLeft fault (lacking p (length more)) from to
    → Keeps from to old old × IsBlocksAfter fault (length from.blocks)
    (put (lists_at from.blocks old) id (grown (map.get (lists_at from.blocks old) id) more)) (length to.blocks)
refused Stray from to old id p more are found same =
    let is : to ≡ from = same in (rw is (record { held = are; lists = refl }), ap (λ q. length q.blocks) is)
refused OrderDiffers from to old id p more are found same =
    let is : to ≡ from = same in (rw is (record { held = are; lists = refl }), ap (λ q. length q.blocks) is)
refused GatherFull from to old id p more are found same =
    let is : to ≡ from = same in (rw is (record { held = are; lists = refl }), ap (λ q. length q.blocks) is)
refused NoMemory from to old id p more are found provides =
    let some : IsProvided (lacking p (length more)) from to = provides in (
      provided from to old are some.grown some.whole,
      most_blocks from to (lists_at from.blocks old) id (lacking p (length more)) _ are.free some (wants from old id p more are found),
    )

-- as the call on the list itself says
pub by_append : (from to : Pooled) (old new : List (ℕ × Placed)) (over : Bool) (id : ℕ) (order : Order) (more : List ℕ)
    (r : Result (Unit {0}) GatherFault) (p q : Placed) → AreHeld from old
    → lookup (is_at (nat_cmp id)) old ≡ Some p → Becomes old new id (Some q)
    → OnOk r (IsJoinedTo p from q to more) → OnOk r (add_fault_by over (Some (pieces_at from.blocks p)) order ≡ None)
    → IfErr r (λ fault. RefusedAs NoMemory fault (add_fault_by over (Some (pieces_at from.blocks p)) order))
    → OnErr r (q ≡ record p { room = q.room }) → IfErr r (λ fault. IsLeft fault (lacking p (length more)) from to)
    → Grows from to old new over id order more r
by_append from to old new over id order more (Ok done) p q are found becomes ok only err kept left =
    let first = provided from ok.between old are ok.provided.grown ok.provided.whole in
    let second = filled ok.between to old new id p q more first.held found becomes ok.filled in
    let lists = second.lists ∙ ap (λ m. put m id (grown (map.get m id) more)) first.lists in
    record {
      held = second.held;
      ok = lists;
      number = as_many from ok.between to (lists_at from.blocks old) id (lacking p (length more)) _ new are.free ok.provided
          (wants from old id p more are found)
          ok.filled.number second.held lists;
      only = ap (λ h. add_fault_by over h order) (pieces_found from.blocks old id (Some p) found) ∙ only;
      err = tt;
      kept = tt;
      left = tt;
    }
by_append from to old new over id order more (Err fault) p q are found becomes ok only err kept left =
    let first = refused fault from to old id p more are found left in
    let second = roomier to old new id p q first.0.held found becomes kept in
    record {
      held = second.held;
      ok = tt;
      number = tt;
      only = tt;
      err = rw (pieces_found from.blocks old id (Some p) found) err;
      kept = second.lists ∙ first.0.lists;
      left = first.1;
    }
