-- What items leave of a call, by what each of them leaves.
use Rattle.std.proofs.Common.{◌≡◌, Bool, cond, List, [], ◌∷◌, ◌++◌, Option, Some, None, Result, Ok, Err, IsOk, refl, sym, subst, ap, true, false, ◌∙◌}
use Rattle.std.specs.Option.{option_map}
use Rattle.giop_frag.specs.Gathered.{Pieces}
use Rattle.giop_ids.specs.Runs.{left}
use Rattle.giop_msg.specs.declared.msg.Msg.{Msg}
use Rattle.giop_mux.specs.Faults.{no_fault}
use Rattle.giop_mux.specs.declared.step.Step.{Step}
use Rattle.giop_table.specs.declared.plan.Plan.{Plan}
use Rattle.giop_table.specs.declared.plan.Planned.{Planned}
use Rattle.giop_table.specs.CallTable.{Act, Brings, Call, Hears, IsTaken, Nothing, Turned, brought, gathers, taken, turn, turned}
use Rattle.giop_session.specs.Items.Carries.{Item, Telling, CarriesItem, Carries, behind_all}
use Rattle.giop_session.specs.Runs.Events.{Event, Follows, what}
use Rattle.giop_table.specs.Sending.{entry_of, sends_of, settled_by, slot_of, unsent_after, unsent_of}

-- the entry of the slot of an entry
pub entry_is : {E : Type 0} (entry : Option E) (unsent : List Msg) → entry_of (slot_of entry unsent) ≡ entry
entry_is None unsent = refl
entry_is (Some entry) unsent = refl

module _ {E V A F : Type 0} (next : Option E → V → Step E A F) (closed gathering : E → Bool) where
  -- a call with this entry, these messages and these pieces, as long as they are gathered
  abbrev pub call_of : Option E → List Msg → Option Pieces → Call E
  call_of entry unsent pieces = record {
    slot = slot_of entry unsent;
    pieces = cond (gathers gathering (slot_of entry unsent)) pieces None;
  }

  -- what an accepted event leaves of its call
  pub record Heard (call : Call E) (planned : Planned V) (brings : Brings) : Type 0 where
    pub accepted : IsOk (next (entry_of call.slot) planned.event).outcome
    pub leaves : left call (turn next closed gathering call (Hears planned brings))
        ≡ call_of (next (entry_of call.slot) planned.event).entry (unsent_after planned.plan (unsent_of call.slot))
        (brought brings call.pieces)

  -- what a step is to its call
  abbrev settled : Call E → Option E → Plan → Brings → Result A F → Turned E A F
  settled call entry plan brings outcome =
      turned gathering (brought brings call.pieces) (settled_by entry plan (unsent_of call.slot) outcome).entry
      (sends_of plan (unsent_of call.slot) outcome)

  pub heard : (call : Call E) (planned : Planned V) (brings : Brings)
      → IsOk (turn next closed gathering call (Hears planned brings)) → Heard call planned brings
  heard call planned brings ok =
      let step = next (entry_of call.slot) planned.event in
      let both = by_outcome step.entry planned.plan step.outcome ok in
      record { accepted = both.0; leaves = both.1 }
    where
      by_outcome : (entry : Option E) (plan : Plan) (outcome : Result A F) → IsOk (settled call entry plan brings outcome)
          → IsOk outcome × (left call (settled call entry plan brings outcome)
          ≡ call_of entry (unsent_after plan (unsent_of call.slot)) (brought brings call.pieces))
      by_outcome entry plan (Ok answer) ok = (refl, refl)
      by_outcome entry plan (Err fault) ok = no_fault ok

  -- the entry behind an accepted event
  pub entry_left : (call after : Call E) (planned : Planned V) → IsOk (turn next closed gathering call (Hears planned Nothing))
      → after ≡ left call (turn next closed gathering call (Hears planned Nothing))
      → entry_of after.slot ≡ (next (entry_of call.slot) planned.event).entry
  entry_left call after planned ok is =
      let did = heard call planned Nothing ok in
      ap (λ call. entry_of call.slot) (is ∙ did.leaves) ∙ entry_is (next (entry_of call.slot) planned.event).entry _

  -- behind an entry that is taken out nothing stands
  pub taken_out : (call after : Call E) → IsOk (turn next closed gathering call IsTaken)
      → after ≡ left call (turn next closed gathering call IsTaken) → entry_of after.slot ≡ None
  taken_out call after ok is =
      ap (λ call. entry_of call.slot) is ∙ by_closed (option_map (λ slot. closed slot.entry) call.slot) ok
    where
      by_closed : (over : Option Bool) → IsOk (taken {A = A} {F = F} over call)
          → entry_of (left call (taken {A = A} {F = F} over call)).slot ≡ None
      by_closed None ok = refl
      by_closed (Some true) ok = refl
      by_closed (Some false) ok = no_fault ok

module _ {E V A F T Message : Type 0} (turn : Call E → Act V → Turned E A F) (act_by : Msg → Call E → Act V)
    (telling : Telling T Message V) (Stands : T → Call E → Type 0) where
  -- events in two parts
  pub in_two : (call after : Call E) (one rest : List (Event V)) → Follows turn act_by call (one ++ rest) after
      → (mid : Call E) × Follows turn act_by call one mid × Follows turn act_by mid rest after
  in_two call after [] rest follows = (call, refl, follows)
  in_two call after (e ∷ one) rest follows =
      let behind = in_two (left call (turn call (what turn act_by e call))) after one rest follows.1 in
      (behind.0, (follows.0, behind.1), behind.2)

  -- an item leaves of a call what is said, whatever events carry it
  abbrev pub ItemLeaves : Type 0
  ItemLeaves = (t : T) (call after : Call E) (item : Item Message V) (events : List (Event V)) → Stands t call
      → CarriesItem telling t item events → Follows turn act_by call events after → Stands (telling.behind t item) after

  -- so do many
  pub items_leave : ItemLeaves → (items : List (Item Message V)) (t : T) (call after : Call E) (events : List (Event V)) → Stands t call
      → Carries telling t items events → Follows turn act_by call events after → Stands (behind_all telling t items) after
  items_leave law [] t call after events stands carries follows =
      let same : after ≡ call = subst (λ l. Follows turn act_by call l after) carries follows in subst (Stands t) (sym same) stands
  items_leave law (item ∷ items) t call after events stands (one, rest, e, carries, more) follows =
      let parts = in_two call after one rest (subst (λ l. Follows turn act_by call l after) e follows) in
      items_leave law items (telling.behind t item) parts.0 after rest (law t call parts.0 item one stands carries parts.1) more parts.2
