-- The calls of one end: their entries, with the messages that are still to be sent, and the pieces
-- that are gathered (CORBA 3.3 Part 2, 9.4.9); and what an act does to one of them.
use Rattle.std.specs.Prelude.{◌≡◌, ◌≤◌, ◌+◌, ◌/◌, ℕ, Bool, true, false, if◌then◌else◌, List, length, Option, Some, None, is_some, Result, Ok, Err, refl}
use Rattle.std.specs.Option.{option_map, option_or}
use Rattle.std.specs.FinMap as finite
use Rattle.std.specs.Coded.{Coded, code_by, coded×, coded_ℕ}
use Rattle.giop_cdr.specs.declared.order.Order.{Order}
use Rattle.giop_ids.specs.ById.{ById, by_id_code, put}
use Rattle.giop_ids.specs.Runs.{Does, Done, Rules}
use Rattle.giop_mux.specs.Calls.{Calls, is_one_too_many}
use Rattle.giop_mux.specs.declared.step.Step.{Step}
use Rattle.giop_mux.specs.declared.refusal.Refusal.{Refusal}
use Rattle.giop_mux.specs.declared.refusal.Refusal.TheVariants as refusal
use Rattle.giop_frag.specs.Gathered.{Gathered, Pieces, Lists, pieces_code, grown, is_over}
use Rattle.giop_frag.specs.declared.fault.GatherFault.{GatherFault}
use Rattle.giop_frag.specs.declared.fault.GatherFault.TheVariants as gathering
use Rattle.giop_table.specs.declared.slot.Slot.{Slot}
use Rattle.giop_table.specs.declared.plan.Planned.{Planned}
use Rattle.giop_table.specs.declared.table_fault.TableFault.{TableFault}
use Rattle.giop_table.specs.declared.table_fault.TableFault.TheVariants.{Rule, TooManyCalls, GatherFull, StillOpen, NoMemory}
use Rattle.giop_table.specs.Sending.{Sends, entry_of, sending_step, sends_of, unsent_of}

-- the calls of an end: their rule, how many entries and how many gathered octets there may be, what
-- is stored for the ids, and what is gathered
pub record Held (R E : Type 0) : Type 0 where
  pub rule : R
  pub calls : ℕ
  pub room : ℕ
  pub table : ById (Slot E)
  pub gathered : Lists

-- one call: its slot, and its pieces
pub record Call (E : Type 0) : Type 0 where
  pub slot : Option (Slot E)
  pub pieces : Option Pieces

-- what is stored for an id
abbrev pub at : {R E : Type 0} → Held R E → ℕ → Call E
at h id = record { slot = finite.get h.table id; pieces = finite.get h.gathered id }

-- the entry that is stored for an id, if one is
abbrev pub entry_at : {R E : Type 0} → Held R E → ℕ → Option E
entry_at h id = entry_of (finite.get h.table id)

-- the calls where something else is stored for an id
abbrev pub put_call : {R E : Type 0} → Held R E → ℕ → Call E → Held R E
put_call h id call = record h {
  table = put h.table id call.slot;
  gathered = put h.gathered id call.pieces;
}

-- the octets that an event brings to its call: the first, or more, or none
pub data Brings : Type 0 where
  First : Order → List ℕ → Brings
  More : List ℕ → Brings
  Nothing : Brings

-- an act on a call: an event, with what is done to its unsent messages and the octets that it
-- brings; or that its entry is taken out
pub data Act (V : Type 0) : Type 0 where
  Hears : Planned V → Brings → Act V
  IsTaken : Act V

-- what is answered: to an event what its rule answers and the message to be put out, to a take what
-- was taken out
pub data Reply (E A : Type 0) : Type 0 where
  Answers : Sends A → Reply E A
  Gives : Option (Slot E) → Reply E A

-- the pieces with these octets
abbrev pub brought : Brings → Option Pieces → Option Pieces
brought (First order octets) pieces = Some (record { order = order; octets = octets })
brought (More octets) pieces = grown pieces octets
brought Nothing pieces = pieces

-- a table's refusal, as an end returns it
abbrev pub fault_of : {F : Type 0} → Refusal F → TableFault F
fault_of (refusal.Rule fault) = Rule fault
fault_of refusal.TooManyCalls = TooManyCalls
fault_of refusal.NoMemory = NoMemory

-- a gatherer's refusal of a piece in order, of a message that comes, as an end returns it
abbrev pub gather_fault : {F : Type 0} → GatherFault → TableFault F
gather_fault gathering.NoMemory = NoMemory
gather_fault gathering.GatherFull = GatherFull
gather_fault gathering.Stray = GatherFull
gather_fault gathering.OrderDiffers = GatherFull

-- what becomes of one call, or why not
abbrev pub Turned : (E A F : Type 0) → Type 0
Turned E A F = Result (Done (Call E) (Reply E A)) (TableFault F)

-- a take: a slot goes, unless its call is open
abbrev pub taken : {E A F : Type 0} → Option Bool → Call E → Turned E A F
taken (Some false) call = Err StillOpen
taken (Some true) call =
    Ok (record { now = record { slot = None; pieces = call.pieces }; answer = Gives call.slot })
taken None call =
    Ok (record { now = record { slot = None; pieces = call.pieces }; answer = Gives call.slot })

-- whether pieces of the call are gathered
abbrev pub gathers : {E : Type 0} → (E → Bool) → Option (Slot E) → Bool
gathers gathering None = false
gathers gathering (Some slot) = gathering slot.entry

-- an id has pieces exactly where these are gathered
abbrev pub IsTied : {E : Type 0} → (E → Bool) → ById (Slot E) → Lists → Type 0
IsTied gathering table gathered =
    (id : ℕ) → is_some (finite.get gathered id) ≡ gathers gathering (finite.get table id)

-- a table of calls and a gatherer are the calls of an end: they are tied, and there are no more
-- entries, and no more blocks for pieces, than there may be
pub record IsTable {S E : Type 0} (gathering : E → Bool) (m : Calls S (Slot E)) (g : Gathered)
    : Type 0 where
  pub tied : IsTied gathering m.entries g.lists
  pub within : finite.len m.entries ≤ m.limit
  pub blocks : g.blocks ≤ g.limit / 512 + m.limit

-- what an event comes to: where it is accepted, the pieces are those with what it brings, as long
-- as they are gathered
abbrev pub turned : {E A F : Type 0} → (E → Bool) → Option Pieces → Option (Slot E)
    → Result (Sends A) F → Turned E A F
turned gathering pieces slot (Ok sends) = Ok (record {
  now = record { slot = slot; pieces = if gathers gathering slot then pieces else None };
  answer = Answers sends;
})
turned gathering pieces slot (Err fault) = Err (Rule fault)

-- why there is no room for so many octets
abbrev pub octets_fault : {R E F : Type 0} → Held R E → ℕ → Option (TableFault F)
octets_fault h n = if is_over h.room h.gathered n then Some GatherFull else None

-- why there is no room for the octets that an event brings, which count where they are gathered:
-- the first where they are gathered then, more where others were
abbrev pub room_fault : {R E F : Type 0} → (E → Bool) → Held R E → ℕ → Option (Slot E) → Brings
    → Option (TableFault F)
room_fault gathering h id slot (First order octets) =
    if gathers gathering slot then octets_fault h (length octets) else None
room_fault gathering h id slot (More octets) =
    if gathers gathering (finite.get h.table id) then octets_fault h (length octets) else None
room_fault gathering h id slot Nothing = None

-- why there is no room for what is then stored for the id
abbrev pub calls_fault : {R E F : Type 0} → Held R E → ℕ → Option (Slot E) → Option (TableFault F)
calls_fault h id slot =
    if is_one_too_many h.table h.calls id slot then Some TooManyCalls else None

module _ {E V A F : Type 0} (next : Option E → V → Step E A F) (closed gathering : E → Bool) where
  -- what an event does to a call with this slot
  abbrev pub step_of : Option (Slot E) → Planned V → Step (Slot E) A F
  step_of slot planned = sending_step next slot planned

  -- what an act does to one call, whatever is stored for other ids
  abbrev pub turn : Call E → Act V → Turned E A F
  turn call (Hears planned brings) =
      turned gathering (brought brings call.pieces) (step_of call.slot planned).entry
      (sends_of planned.plan (unsent_of call.slot) (step_of call.slot planned).outcome)
  turn call IsTaken = taken (option_map (λ slot. closed slot.entry) call.slot) call

  -- why the whole has no room for an act
  abbrev pub limit : {R : Type 0} → Held R E → ℕ → Act V → Option (TableFault F)
  limit h id (Hears planned brings) =
      option_or (calls_fault h id (step_of (finite.get h.table id) planned).entry)
      (room_fault gathering h id (step_of (finite.get h.table id) planned).entry brings)
  limit h id IsTaken = None

  -- how the calls are kept by id
  abbrev pub rules_of : {R : Type 0} → Rules (Held R E) (Call E) (Act V) (Reply E A) (TableFault F)
  rules_of = record {
    at = at;
    put = put_call;
    turn = turn;
    limit = λ h act. limit h act.id act.what;
    memory = NoMemory;
  }

-- what a trait says of the rule of calls, as `R.Side`: what a step does, which calls are over, and
-- which gather pieces
abbrev pub RuleOf : (R E V A F : Type 0) → Type 0
RuleOf R E V A F = record {
  next : R → Option E → V → Step E A F;
  closed : R → E → Bool;
  gathering : E → Bool;
}

module _ {R E V A F : Type 0} (of : RuleOf R E V A F) where
  -- what an act does to one call by it
  abbrev pub turn_by : R → Call E → Act V → Turned E A F
  turn_by rule = turn (of.next rule) (of.closed rule) of.gathering

  -- how calls are kept by id
  abbrev pub rules_by : R → Rules (Held R E) (Call E) (Act V) (Reply E A) (TableFault F)
  rules_by rule = rules_of (of.next rule) (of.closed rule) of.gathering

  -- an act is done to the call of an id: it is answered so, and these calls are left
  abbrev pub DoesTo : Held R E → ℕ → Act V → Result (Reply E A) (TableFault F) → Held R E → Type 0
  DoesTo h id act reply k = Does (rules_by h.rule) h (record { id = id; what = act }) reply k

  -- what an event does to the slot of an id
  abbrev pub stepped : Held R E → ℕ → Planned V → Step (Slot E) A F
  stepped h id planned = sending_step (of.next h.rule) (finite.get h.table id) planned

  -- whether pieces are gathered for an id
  abbrev pub gathers_at : Held R E → ℕ → Bool
  gathers_at h id = gathers of.gathering (finite.get h.table id)

  -- something is stored for an id, and its call isn't over
  abbrev pub IsOpenAt : Held R E → ℕ → Type 0
  IsOpenAt h id =
      option_map (λ slot. of.closed h.rule slot.entry) (finite.get h.table id) ≡ Some false

-- the calls without what is stored for an id
abbrev pub without : {R E : Type 0} → Held R E → ℕ → Held R E
without h id = record h { table = put h.table id None }

-- an event changes nothing at its call, and is answered so
abbrev pub Stays : {E A F : Type 0} → Step (Slot E) A F → Option (Slot E) → A → Type 0
Stays step slot answer = step ≡ record { entry = slot; outcome = Ok answer }

-- what such an event is answered, where there was room for its octets
abbrev pub answered : {A F : Type 0}
    → A → Result (Unit {0}) (TableFault F) → Result A (TableFault F)
answered answer (Ok done) = Ok answer
answered answer (Err fault) = Err fault

-- what an event and a take come to, with the limits and memory
abbrev pub event_reply : {E A F : Type 0}
    → Result (Sends A) (TableFault F) → Result (Reply E A) (TableFault F)
event_reply (Ok sends) = Ok (Answers sends)
event_reply (Err fault) = Err fault

abbrev pub take_reply : {E A F : Type 0}
    → Result (Option (Slot E)) (TableFault F) → Result (Reply E A) (TableFault F)
take_reply (Ok slot) = Ok (Gives slot)
take_reply (Err fault) = Err fault

module _ {R E V A F : Type 0} (of : RuleOf R E V A F) where
  -- an event happens to the call of an id: it is answered so, and these calls are left. The message
  -- that it puts out isn't returned: the plan and the call say it
  abbrev pub DoesEvent : Held R E → ℕ → Planned V → Brings → Result A (TableFault F) → Held R E
      → Type 0
  DoesEvent h id planned brings result k =
      DoesTo of h id (Hears planned brings)
      (event_reply (sends_of planned.plan (unsent_of (finite.get h.table id)) result)) k

  -- a further piece of what is gathered comes with an event that changes nothing at its call
  abbrev pub GoesOn : Held R E → ℕ → Planned V → List ℕ → A
      → Result (Unit {0}) (TableFault F) → Held R E → Type 0
  GoesOn h id planned octets answer result k =
      DoesEvent h id planned (More octets) (answered answer result) k

-- whether a call's own rule refuses, and not a limit or an end that is out of memory
abbrev pub is_of_call : {F : Type 0} → TableFault F → Bool
is_of_call (Rule fault) = true
is_of_call StillOpen = true
is_of_call TooManyCalls = false
is_of_call GatherFull = false
is_of_call NoMemory = false

-- the calls of an end are stored as the tuple of their fields
abbrev pub held_code : {R E : Type 0} → Coded R → Coded (Slot E) → Coded (Held R E)
held_code {R} {E} rule slot =
    code_by (R × (ℕ × (ℕ × (ById (Slot E) × Lists))))
    (coded× rule (coded× coded_ℕ
    (coded× coded_ℕ (coded× (by_id_code slot) (by_id_code pieces_code)))))
    (λ h. (h.rule, (h.calls, (h.room, (h.table, h.gathered)))))
    (λ p. record {
      rule = p.0;
      calls = p.1.0;
      room = p.1.1.0;
      table = p.1.1.1.0;
      gathered = p.1.1.1.1;
    })
    (λ _. refl)
