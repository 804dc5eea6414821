-- What each act leaves of the table and of the pieces, and that both stay tied.
use Rattle.std.proofs.Common.{◌≡◌, ◌≢◌, ◌≤◌, ◌+◌, ◌/◌, ℕ, Bool, true, false, cond, List, length, Option, Some, None, is_some, is_none, Result, Ok, Err, IsOk, refl, sym, ap, subst, ◌∙◌, ◌&&◌, ◌==◌, inl, inr, arith}
use Rattle.std.proofs.lemmas.Bool.Decides.{nat_tests}
use Rattle.std.specs.Option.{option_map, option_or}
use Rattle.std.specs.FinMap as finite
use Rattle.giop_cdr.specs.declared.order.Order.{Order}
use Rattle.giop_ids.specs.ById.{ById, put}
use Rattle.giop_ids.specs.Runs.{Does, told, within, left, refusal_of, RefusedAs, IsApart, Distinguishes}
use Rattle.giop_ids.proofs.Puts.{get-put, put_same, put-put, put_absent, len-put_new, len-put_old}
use Rattle.giop_ids.proofs.Lengths.{len_within_other}
use Rattle.giop_mux.specs.Calls.{Calls, is_one_too_many, by_rule, judged}
use Rattle.giop_mux.specs.declared.step.Step.{Step}
use Rattle.giop_mux.specs.declared.refusal.Refusal.{Refusal}
use Rattle.giop_mux.specs.declared.refusal.Refusal.TheVariants as refusal
use Rattle.giop_frag.specs.Gathered.{Gathered, Pieces, Lists, grown, is_over, octets_in, total_of, blocks_after, IsBlocksAfter}
use Rattle.giop_frag.proofs.TotalLemmas.{total_put, blocks_kept, octets_in-grown}
use Rattle.giop_frag.specs.declared.fault.GatherFault.{GatherFault}
use Rattle.giop_frag.specs.declared.fault.GatherFault.TheVariants as gathering
use Rattle.giop_table.specs.declared.slot.Slot.{Slot}
use Rattle.giop_table.specs.declared.plan.Planned.{Planned}
use Rattle.giop_msg.specs.declared.msg.Msg.{Msg}
use Rattle.giop_table.specs.declared.plan.Plan.{Plan}
use Rattle.giop_table.specs.declared.table_fault.TableFault.{TableFault}
use Rattle.giop_table.specs.declared.table_fault.TableFault.TheVariants.{Rule, TooManyCalls, GatherFull, NoMemory}
use Rattle.giop_table.specs.Sending.{sending_step, sends_of, unsent_of}
use Rattle.giop_table.specs.CallTable.{Held, Call, at, put_call, Brings, First, More, Nothing, Act, Hears, IsTaken, Gives, brought, fault_of, gather_fault, Turned, taken, gathers, IsTied, IsTable, turned, turn, room_fault, calls_fault, limit, rules_of, Stays, event_reply, is_of_call}

-- both structures, as the calls of an end
abbrev pub held : {S R E : Type 0} → R → Calls S (Slot E) → Gathered → Held R E
held rule m g = record { rule = rule; calls = m.limit; room = g.limit; table = m.entries; gathered = g.lists }

-- a change of one id under both leaves them tied where it ties that id
pub tied_after : {E : Type 0} (gathering : E → Bool) (table table' : ById (Slot E)) (gathered gathered' : Lists) (id : ℕ) (slot : Option (Slot E))
    (pieces : Option Pieces) → IsTied gathering table gathered → table' ≡ put table id slot → gathered' ≡ put gathered id pieces
    → is_some pieces ≡ gathers gathering slot → IsTied gathering table' gathered'
tied_after gathering table table' gathered gathered' id slot pieces tied is_table is_gathered same q =
    ap (λ g. is_some (finite.get g q)) is_gathered ∙ ap is_some (get-put gathered id pieces q)
    ∙ by_id (q == id) ∙ sym (ap (λ m. gathers gathering (finite.get m q)) is_table ∙ ap (gathers gathering) (get-put table id slot q))
  where
    by_id : (b : Bool) → is_some (cond b pieces (finite.get gathered q)) ≡ gathers gathering (cond b slot (finite.get table q))
    by_id true = same
    by_id false = tied q

-- what stands there already changes nothing
pub put_itself : {V : Type 0} (m : ById V) (id : ℕ) → m ≡ put m id (finite.get m id)
put_itself m id = sym (put_same m id (finite.get m id) refl)

-- an id that doesn't gather has no pieces
pub no_pieces : (pieces : Option Pieces) (b : Bool) → is_some pieces ≡ b → b ≡ false → pieces ≡ None
no_pieces None b same away = refl
no_pieces (Some pieces) b same away = absurd cc

-- octets that are added leave an id with pieces, or without
pub still_some : (pieces : Option Pieces) (octets : List ℕ) → is_some (grown pieces octets) ≡ is_some pieces
still_some None octets = refl
still_some (Some pieces) octets = refl

-- ids with pieces have entries, so there are no more of them
lists_within : {E : Type 0} (gathering : E → Bool) (table : ById (Slot E)) (gathered : Lists) → IsTied gathering table gathered
    → finite.len gathered ≤ finite.len table
lists_within {E} gathering table gathered tied =
    len_within_other gathered table (λ id there. has_entry (finite.get table id) (sym (tied id) ∙ there))
  where
    has_entry : (slot : Option (Slot E)) → gathers gathering slot ≡ true → is_some slot ≡ true
    has_entry None here = absurd cc
    has_entry (Some slot) here = refl

-- an entry that is not one too many leaves no more than there may be
entries_within : {V : Type 0} (m : ById V) (calls id : ℕ) (entry : V) → finite.len m ≤ calls
    → (is_none (finite.get m id) && (finite.len m == calls)) ≡ false → finite.len (put m id (Some entry)) ≤ calls
entries_within m calls id entry within fits =
    elim (finite.get m id) as (λ held. finite.get m id ≡ held → (is_none held && (finite.len m == calls)) ≡ false
    → finite.len (put m id (Some entry)) ≤ calls) [
      | None ↦ λ absent few. let more = len-put_new m id entry absent in grind (arith, nat_tests)
      | Some old ↦ λ found few. let same = len-put_old m id old entry found in omega arith
    ] refl fits

-- so a first piece is one of no more ids than there may be entries
begun_within : {S E : Type 0} (is_gathering : E → Bool) (m : Calls S (Slot E)) (g : Gathered) (id : ℕ) (slot : Option (Slot E)) (pieces : Pieces)
    → IsTable is_gathering m g → gathers is_gathering slot ≡ true → (is_none (finite.get m.entries id) && (finite.len m.entries == m.limit)) ≡ false
    → finite.len (put g.lists id (Some pieces)) ≤ m.limit
begun_within is_gathering m g id None pieces table here fits = absurd cc
begun_within is_gathering m g id (Some slot) pieces table here fits =
    let tied = tied_after is_gathering m.entries (put m.entries id (Some slot)) g.lists (put g.lists id (Some pieces)) id (Some slot) (Some pieces) table.tied
    refl refl (sym here) in
    let most = lists_within is_gathering (put m.entries id (Some slot)) (put g.lists id (Some pieces)) tied in
    let entries = entries_within m.entries m.limit id slot table.within fits in
    omega arith

-- and further octets leave the number of ids with pieces
grown_within : {S E : Type 0} (is_gathering : E → Bool) (m : Calls S (Slot E)) (g : Gathered) (id : ℕ) (pieces : Option Pieces)
    → IsTable is_gathering m g → is_some pieces ≡ is_some (finite.get g.lists id) → finite.len (put g.lists id pieces) ≤ m.limit
grown_within is_gathering m g id pieces table same =
    let tied = tied_after is_gathering m.entries m.entries g.lists (put g.lists id pieces) id (finite.get m.entries id) pieces table.tied
    (put_itself m.entries id) refl (same ∙ table.tied id) in
    let most = lists_within is_gathering m.entries (put g.lists id pieces) tied in
    let all = table.within in
    omega arith

-- pieces that come under an id, with so many octets more, of no more ids than there may be entries
pub record Comes {S E : Type 0} (is_gathering : E → Bool) (m : Calls S (Slot E)) (g : Gathered) (id : ℕ) (pieces : Option Pieces) (n : ℕ) : Type 0 where
  pub table : IsTable is_gathering m g
  pub few : finite.len (put g.lists id pieces) ≤ m.limit
  pub more : octets_in pieces ≡ octets_in (finite.get g.lists id) + n

-- the first octets of an id are more than none
first_more : (held : Option Pieces) (octets : List ℕ) → held ≡ None → length octets ≡ octets_in held + length octets
first_more None octets none = omega arith
first_more (Some pieces) octets none = absurd cc

-- a first piece comes so, and so does a further one
pub begins : {S R E : Type 0} (is_gathering : E → Bool) (rule : R) (m : Calls S (Slot E)) (g : Gathered) (h : Held R E) (id : ℕ)
    (step : Held R E → Option (Slot E)) (order : Order) (octets : List ℕ) (many : Bool) → held rule m g ≡ h → IsTable is_gathering m g
    → gathers is_gathering (finite.get h.table id) ≡ false → gathers is_gathering (step h) ≡ true
    → many ≡ (is_none (finite.get h.table id) && (finite.len h.table == h.calls)) → many ≡ false
    → Comes is_gathering m g id (Some (record { order = order; octets = octets })) (length octets)
begins is_gathering rule m g h id step order octets many view table away here is one = record {
  table = table;
  few = begun_within is_gathering m g id (step (held rule m g)) (record { order = order; octets = octets }) table
      (ap (λ h. gathers is_gathering (step h)) view ∙ here) (ap (λ h. is_none (finite.get h.table id) && (finite.len h.table == h.calls)) view ∙ sym is ∙ one);
  more = first_more (finite.get g.lists id) octets (no_pieces (finite.get g.lists id) (gathers is_gathering (finite.get m.entries id)) (table.tied id)
      (ap (λ h. gathers is_gathering (finite.get h.table id)) view ∙ away));
}

pub goes_on : {S E : Type 0} (is_gathering : E → Bool) (m : Calls S (Slot E)) (g : Gathered) (id : ℕ) (octets : List ℕ)
    → IsTable is_gathering m g → gathers is_gathering (finite.get m.entries id) ≡ true
    → Comes is_gathering m g id (grown (finite.get g.lists id) octets) (length octets)
goes_on is_gathering m g id octets table here = record {
  table = table;
  few = grown_within is_gathering m g id (grown (finite.get g.lists id) octets) table (still_some (finite.get g.lists id) octets);
  more = octets_in-grown (finite.get g.lists id) octets (table.tied id ∙ here);
}

-- the octets are within the limit where there was room for those that came
total_within : (g : Gathered) (id : ℕ) (pieces : Option Pieces) (n : ℕ) → octets_in pieces ≡ octets_in (finite.get g.lists id) + n
    → is_over g.limit g.lists n ≡ false → total_of (put g.lists id pieces) ≤ g.limit
total_within g id pieces n is fits =
    let all = total_put g.lists id pieces in
    let room : total_of g.lists + n ≤ g.limit = grind (arith, nat_tests) in
    omega arith

-- so where there was room for a piece, there are no more blocks than there may be
pub enough_blocks : {S E : Type 0} (is_gathering : E → Bool) (m : Calls S (Slot E)) (g : Gathered) (id : ℕ) (pieces : Option Pieces)
    (n limit calls blocks : ℕ) → Comes is_gathering m g id pieces n → is_over g.limit g.lists n ≡ false → limit ≡ g.limit → calls ≡ m.limit
    → blocks ≡ blocks_after g.blocks (put g.lists id pieces) → blocks ≤ limit / 512 + calls
enough_blocks is_gathering m g id pieces n limit calls blocks comes fits same_limit same_calls same_blocks =
    rw (same_limit, same_calls, same_blocks)
    (blocks_kept g.limit m.limit g.blocks (put g.lists id pieces) (total_within g id pieces n comes.more fits) comes.few comes.table.blocks)

-- the gatherer tells want of memory only where there was room
had_room : (over : Bool) (fault : GatherFault) → RefusedAs gathering.NoMemory fault (cond over (Some gathering.GatherFull) None)
    → fault ≡ gathering.NoMemory → over ≡ false
had_room true fault (inl is) wanting = absurd cc
had_room true fault (inr both) wanting = absurd cc
had_room false fault is wanting = refl

-- a refusal leaves no more blocks than there may be
blocks_between : (limit ids old new : ℕ) (m : Lists) (fault : GatherFault) → IsBlocksAfter fault old m new → finite.len m ≤ ids
    → (fault ≡ gathering.NoMemory → total_of m ≤ limit) → old ≤ limit / 512 + ids → new ≤ limit / 512 + ids
blocks_between limit ids old new m gathering.Stray same few fits had = let is : new ≡ old = same in omega arith
blocks_between limit ids old new m gathering.OrderDiffers same few fits had = let is : new ≡ old = same in omega arith
blocks_between limit ids old new m gathering.GatherFull same few fits had = let is : new ≡ old = same in omega arith
blocks_between limit ids old new m gathering.NoMemory between few fits had = let most = blocks_kept limit ids old m (fits refl) few had in omega arith

-- a piece that the gatherer refuses leaves the calls of an end
pub refused_piece : {S E : Type 0} (is_gathering : E → Bool) (m : Calls S (Slot E)) (g g' : Gathered) (id : ℕ) (pieces : Option Pieces) (n : ℕ)
    (fault : GatherFault) → Comes is_gathering m g id pieces n
    → RefusedAs gathering.NoMemory fault (cond (is_over g.limit g.lists n) (Some gathering.GatherFull) None)
    → IsBlocksAfter fault g.blocks (put g.lists id pieces) g'.blocks → g' ≡ record g { blocks = g'.blocks } → IsTable is_gathering m g'
refused_piece is_gathering m g g' id pieces n fault comes refused between after = record {
  tied = subst (IsTied is_gathering m.entries) (sym (ap (λ g. g.lists) after)) comes.table.tied;
  within = comes.table.within;
  blocks = subst (λ limit. g'.blocks ≤ limit / 512 + m.limit) (sym (ap (λ g. g.limit) after))
      (blocks_between g.limit m.limit g.blocks g'.blocks (put g.lists id pieces) fault between comes.few
      (λ wanting. total_within g id pieces n comes.more (had_room (is_over g.limit g.lists n) fault refused wanting)) comes.table.blocks);
}

-- as many blocks, within the same limits
pub as_many_blocks : {S E : Type 0} (is_gathering : E → Bool) (m : Calls S (Slot E)) (g : Gathered) (limit calls blocks : ℕ) → IsTable is_gathering m g
    → limit ≡ g.limit → calls ≡ m.limit → blocks ≡ g.blocks → blocks ≤ limit / 512 + calls
as_many_blocks is_gathering m g limit calls blocks table same_limit same_calls same_blocks = rw (same_limit, same_calls, same_blocks) table.blocks

-- the pieces that are left of a call: they are there exactly where it gathers
pub kept : (b : Bool) (pieces : Option Pieces) → (b ≡ true → is_some pieces ≡ true) → is_some (cond b pieces None) ≡ b
kept true pieces there = there refl
kept false pieces there = refl

-- a call that still gathers has its pieces, where no event began them
pub has_pieces : (pieces : Option Pieces) (before after : Bool) → is_some pieces ≡ before → (before ≡ false → after ≡ false) → after ≡ true
    → is_some pieces ≡ true
has_pieces pieces true after same quiet now = same
has_pieces pieces false true same quiet now = let wrong = quiet refl in absurd cc
has_pieces pieces false false same quiet now = absurd cc

-- what the table accepts, its rule accepts, and there is room
accepted : {A F : Type 0} (many : Bool) (outcome : Result A F) (answer : A)
    → within (cond many (Some refusal.TooManyCalls) None) (by_rule outcome) ≡ Ok answer → (outcome ≡ Ok answer) × (many ≡ false)
accepted true (Ok given) answer is = absurd cc
accepted true (Err fault) answer is = absurd cc
accepted false (Ok given) answer is = (cc, refl)
accepted false (Err fault) answer is = absurd cc

-- how the table refuses, so does the end
refused : {E A F : Type 0} (gathering : E → Bool) (many : Bool) (plan : Plan) (unsent : List Msg) (outcome : Result A F) (slot : Option (Slot E))
    (pieces : Option Pieces) (why : Refusal F)
    → RefusedAs refusal.NoMemory why (refusal_of (within (cond many (Some refusal.TooManyCalls) None) (by_rule outcome)))
    → RefusedAs NoMemory (fault_of why) (refusal_of (within (option_or (cond many (Some TooManyCalls) None) None)
    (turned gathering pieces slot (sends_of plan unsent outcome))))
refused gathering many plan unsent (Err fault) slot pieces why (inl is) = inl (ap (option_map fault_of) is)
refused gathering many plan unsent (Err fault) slot pieces why (inr both) = absurd cc
refused gathering true plan unsent (Ok answer) slot pieces why (inl is) = inl (ap (option_map fault_of) is)
refused gathering true plan unsent (Ok answer) slot pieces why (inr both) = absurd cc
refused gathering false plan unsent (Ok answer) slot pieces why (inl is) = absurd cc
refused gathering false plan unsent (Ok answer) slot pieces why (inr both) = inr (ap fault_of both.0, refl)

-- where the rule accepts, only a limit refuses
over_is : {E A F : Type 0} (gathering : E → Bool) (over : Option (TableFault F)) (plan : Plan) (unsent : List Msg) (outcome : Result A F)
    (slot : Option (Slot E)) (pieces : Option Pieces)
    → IsOk outcome → refusal_of (within over (turned gathering pieces slot (sends_of plan unsent outcome))) ≡ over
over_is gathering (Some why) plan unsent (Ok answer) slot pieces ok = refl
over_is gathering None plan unsent (Ok answer) slot pieces ok = refl
over_is gathering over plan unsent (Err fault) slot pieces ok = absurd cc

-- how the gatherer refuses a first piece, so does the end
pub gather_refused : {F : Type 0} (over : Bool) (why : GatherFault) → RefusedAs gathering.NoMemory why (cond over (Some gathering.GatherFull) None)
    → RefusedAs {Why = TableFault F} NoMemory (gather_fault why) (cond over (Some GatherFull) None)
gather_refused true why (inl is) = inl (ap (option_map gather_fault) is)
gather_refused true why (inr both) = absurd cc
gather_refused false why (inl is) = absurd cc
gather_refused false why (inr both) = inr (ap gather_fault both.0, refl)

-- an id that gets an entry is one too many where it has none and the table is full
pub many_is : {E : Type 0} (gathering : E → Bool) (table : ById (Slot E)) (calls id : ℕ) (slot : Option (Slot E)) → gathers gathering slot ≡ true
    → is_one_too_many table calls id slot ≡ (is_none (finite.get table id) && (finite.len table == calls))
many_is gathering table calls id None gathers = absurd cc
many_is gathering table calls id (Some slot) gathers = by_test (is_none (finite.get table id)) (finite.len table == calls)
  where
    by_test : (a b : Bool) → (a && true && b) ≡ (a && b)
    by_test true b = refl
    by_test false b = refl

-- an id that gathers has an entry already
not_one_more : {E : Type 0} (gathering : E → Bool) (slot : Option (Slot E)) (full : Bool) → gathers gathering slot ≡ true
    → (is_none slot && is_some slot && full) ≡ false
not_one_more gathering None full here = absurd cc
not_one_more gathering (Some slot) full here = refl

module _ {R E V A F : Type 0} (next : Option E → V → Step E A F) (closed gathering : E → Bool) where
  -- what the call's rule makes of an event, in the table
  abbrev step_in : Held R E → ℕ → Planned V → Step (Slot E) A F
  step_in h id planned = sending_step next (finite.get h.table id) planned

  -- and what that comes to
  abbrev comes_to : Held R E → ℕ → Planned V → Brings → Result A F → Turned E A F
  comes_to h id planned brings outcome =
      turned gathering (brought brings (finite.get h.gathered id)) (step_in h id planned).entry
      (sends_of planned.plan (unsent_of (finite.get h.table id)) outcome)

  -- an event is done so
  abbrev pub DoesSo : Held R E → ℕ → Planned V → Brings → Result A (TableFault F) → Held R E → Type 0
  DoesSo h id planned brings result k =
      Does (rules_of next closed gathering) h (record { id = id; what = Hears planned brings })
      (event_reply (sends_of planned.plan (unsent_of (finite.get h.table id)) result)) k

  -- an event that is accepted, and for whose octets there is room
  pub does_heard : (h h' : Held R E) (id : ℕ) (planned : Planned V) (brings : Brings) (answer : A)
      → judged h.table h.calls id (step_in h id planned) ≡ Ok answer
      → room_fault {F = F} gathering h id (step_in h id planned).entry brings ≡ None
      → h' ≡ put_call h id (record {
        slot = (step_in h id planned).entry;
        pieces = cond (gathers gathering (step_in h id planned).entry) (brought brings (finite.get h.gathered id)) None;
      })
      → DoesSo h id planned brings (Ok answer) h'
  does_heard h h' id planned brings answer is room after =
      let step = step_in h id planned in
      let both = accepted (is_one_too_many h.table h.calls id step.entry) step.outcome answer is in
      let none : limit next closed gathering h id (Hears planned brings) ≡ None =
      (λ i. option_or (cond (both.1 i) (Some TooManyCalls) None) (room i)) in
      let is_turned = ap (comes_to h id planned brings) both.0 in
      record {
        answer = ap told (ap (λ over. within over (turn next closed gathering (at h id) (Hears planned brings))) none ∙ ap (within None) is_turned);
        refusal = tt;
        leaves = after ∙ ap (put_call h id) (sym (ap (left (at h id)) is_turned));
      }

  -- an event that the rule or the table refuses
  pub does_refused : (h h' : Held R E) (id : ℕ) (planned : Planned V) (why : Refusal F)
      → RefusedAs refusal.NoMemory why (refusal_of (judged h.table h.calls id (step_in h id planned))) → h' ≡ h
      → DoesSo h id planned Nothing (Err (fault_of why)) h'
  does_refused h h' id planned why is after = record {
    answer = tt;
    refusal = refused gathering (is_one_too_many h.table h.calls id (step_in h id planned).entry) planned.plan (unsent_of (finite.get h.table id))
        (step_in h id planned).outcome (step_in h id planned).entry (finite.get h.gathered id) why is;
    leaves = after;
  }

  -- an event that the rule refuses, whatever octets it brings
  pub does_own : (h : Held R E) (id : ℕ) (planned : Planned V) (brings : Brings) (fault : F) → (step_in h id planned).outcome ≡ Err fault
      → DoesSo h id planned brings (Err (Rule fault)) h
  does_own h id planned brings fault is = record {
    answer = tt;
    refusal = inl (ap (λ outcome. refusal_of (within (limit next closed gathering h id (Hears planned brings)) (comes_to h id planned brings outcome))) is);
    leaves = refl;
  }

  -- an event that the rule accepts and for which there is no room, or no memory
  pub does_over : (h h' : Held R E) (id : ℕ) (planned : Planned V) (brings : Brings) (why : TableFault F)
      → IsOk (step_in h id planned).outcome → RefusedAs NoMemory why (limit next closed gathering h id (Hears planned brings)) → h' ≡ h
      → DoesSo h id planned brings (Err why) h'
  does_over h h' id planned brings why ok is after = record {
    answer = tt;
    refusal = subst (RefusedAs NoMemory why) (sym (over_is gathering (limit next closed gathering h id (Hears planned brings)) planned.plan
        (unsent_of (finite.get h.table id)) (step_in h id planned).outcome (step_in h id planned).entry (brought brings (finite.get h.gathered id)) ok)) is;
    leaves = after;
  }

  -- an event that changes nothing at its call but to bring more octets, for which there is room
  pub does_stay : (h h' : Held R E) (id : ℕ) (planned : Planned V) (octets : List ℕ) (answer : A)
      → Stays (step_in h id planned) (finite.get h.table id) answer → gathers gathering (finite.get h.table id) ≡ true
      → is_over h.room h.gathered (length octets) ≡ false → h' ≡ record h { gathered = put h.gathered id (grown (finite.get h.gathered id) octets) }
      → DoesSo h id planned (More octets) (Ok answer) h'
  does_stay h h' id planned octets answer stays here fits after =
      does_heard h h' id planned (More octets) answer
      (ap (judged h.table h.calls id) stays ∙ rw (not_one_more gathering (finite.get h.table id) (finite.len h.table == h.calls) here) refl)
      (rw (here, fits) refl)
      (after
      ∙ (λ i. record h { table = put_itself h.table id i; gathered = put h.gathered id (cond (sym here i) (grown (finite.get h.gathered id) octets) None) })
      ∙ ap (λ (slot : Option (Slot E)). put_call h id
      (record { slot = slot; pieces = cond (gathers gathering slot) (grown (finite.get h.gathered id) octets) None })) (ap (λ s. s.entry) (sym stays)))

  -- a call is over where its slot is taken out
  pub does_take : (h h' : Held R E) (id : ℕ) (given : Option (Slot E)) → option_map (λ slot. closed slot.entry) (finite.get h.table id) ≢ Some false
      → given ≡ finite.get h.table id → h' ≡ record h { table = put h.table id None }
      → Does (rules_of next closed gathering) h (record { id = id; what = IsTaken }) (Ok (Gives given)) h'
  does_take h h' id given over is after =
      let done : Turned E A F = Ok (record { now = record { slot = None; pieces = finite.get h.gathered id }; answer = Gives (finite.get h.table id) }) in
      let is_turned = by_test (option_map (λ slot. closed slot.entry) (finite.get h.table id)) over in
      record {
        answer = ap told (ap (within None) is_turned) ∙ ap (λ s. Ok (Gives s)) (sym is);
        refusal = tt;
        leaves = after ∙ ap (λ (g : Lists). record h { table = put h.table id None; gathered = g }) (put_itself h.gathered id)
            ∙ ap (put_call h id) (sym (ap (left (at h id)) is_turned));
      }
    where
      by_test : (over : Option Bool) → over ≢ Some false → taken {A = A} {F = F} over (at h id)
          ≡ Ok (record { now = record { slot = None; pieces = finite.get h.gathered id }; answer = Gives (finite.get h.table id) })
      by_test None over = refl
      by_test (Some true) over = refl
      by_test (Some false) over = absurd (over refl)

-- what is taken out does not gather
pub over_is_away : {E : Type 0} (closed gathering : E → Bool) → ((entry : E) → gathering entry ≡ true → closed entry ≡ false)
    → (slot : Option (Slot E)) → option_map (λ s. closed s.entry) slot ≢ Some false → gathers gathering slot ≡ false
over_is_away closed gathering law None over = refl
over_is_away closed gathering law (Some slot) over = by_test (gathering slot.entry) (λ here. over (ap Some (law slot.entry here)))
  where
    by_test : (b : Bool) → (b ≡ true → ⊥) → b ≡ false
    by_test true not_so = absurd (not_so refl)
    by_test false not_so = refl

-- an id that is not in the table twice: a first piece that is begun and then dropped leaves what was gathered
pub dropped : (m m' m'' : Lists) (id : ℕ) (pieces : Option Pieces) → finite.get m id ≡ None → m' ≡ put m id pieces → m'' ≡ put m' id None → m'' ≡ m
dropped m m' m'' id pieces none is then =
    then ∙ ap (λ n. put n id None) is ∙ put-put m id pieces None ∙ put_absent m id none

-- no room is wanting for a first piece, where none was found
pub none_wanting : {R E F : Type 0} (gathering : E → Bool) (h : Held R E) (id : ℕ) (slot : Option (Slot E)) (order : Order) (octets : List ℕ)
    → gathers gathering slot ≡ true → is_one_too_many h.table h.calls id slot ≡ false → is_over h.room h.gathered (length octets) ≡ false
    → option_or (calls_fault {F = F} h id slot) (room_fault gathering h id slot (First order octets)) ≡ None
none_wanting gathering h id slot order octets here one over = rw (one, here, over) refl

-- there was room, where the gatherer found no fault
pub not_over : (over : Bool) → cond over (Some gathering.GatherFull) None ≡ None → over ≡ false
not_over true found = absurd cc
not_over false found = refl

-- a change of one call leaves each other
pub table_apart : {R E V A F : Type 0} (next : Option E → V → Step E A F) (closed gathering : E → Bool)
    → IsApart (rules_of next closed gathering {R = R})
table_apart {E = E} next closed gathering h id call q =
    (λ i. record { slot = get-put h.table id call.slot q i; pieces = get-put h.gathered id call.pieces q i }) ∙ by_id (q == id)
  where
    by_id : (b : Bool) → ◌≡◌ {A = Call E} (record { slot = cond b call.slot (finite.get h.table q); pieces = cond b call.pieces (finite.get h.gathered q) })
        (cond b call (at h q))
    by_id true = refl
    by_id false = refl

-- a limit's refusal is no call's own
limit_is_apart : {F : Type 0} (many here over : Bool) (why : TableFault F)
    → option_or (cond many (Some TooManyCalls) None) (cond here (cond over (Some GatherFull) None) None) ≡ Some why → is_of_call why ≡ false
limit_is_apart true here over why is = let same : TooManyCalls ≡ why = cc in ap is_of_call (sym same)
limit_is_apart false true true why is = let same : GatherFull ≡ why = cc in ap is_of_call (sym same)
limit_is_apart false true false why is = absurd cc
limit_is_apart false false over why is = absurd cc

-- a call's own refusals are told from those of the limits and of memory
pub told_apart : {R E V A F : Type 0} (next : Option E → V → Step E A F) (closed gathering : E → Bool)
    → Distinguishes (rules_of next closed gathering {R = R}) is_of_call
told_apart {R} {E} {V} {A} {F} next closed gathering = record {
  limits = λ h act why is. by_act h act.id act.what why is;
  memory = refl;
}
  where
    by_act : (h : Held R E) (id : ℕ) (act : Act V) (why : TableFault F) → limit next closed gathering h id act ≡ Some why → is_of_call why ≡ false
    by_act h id (Hears planned (First order octets)) why is =
        let slot = (sending_step next (finite.get h.table id) planned).entry in
        limit_is_apart (is_one_too_many h.table h.calls id slot) (gathers gathering slot) (is_over h.room h.gathered (length octets)) why is
    by_act h id (Hears planned (More octets)) why is =
        let slot = (sending_step next (finite.get h.table id) planned).entry in
        limit_is_apart (is_one_too_many h.table h.calls id slot) (gathers gathering (finite.get h.table id)) (is_over h.room h.gathered (length octets)) why is
    by_act h id (Hears planned Nothing) why is =
        let slot = (sending_step next (finite.get h.table id) planned).entry in
        limit_is_apart (is_one_too_many h.table h.calls id slot) false false why is
    by_act h id IsTaken why is = absurd cc
