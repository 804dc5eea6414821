-- Along its own events a call keeps as many messages to be sent as its entry says.
use Rattle.std.proofs.Common.{◌≡◌, ℕ, Bool, true, false, cond, List, [], ◌∷◌, Option, Some, None, Result, Ok, Err, IsOk, refl, sym, subst, inl, inr}
use Rattle.std.specs.Option.{option_map}
use Rattle.giop_frag.specs.Gathered.{Pieces}
use Rattle.giop_ids.specs.Runs.{left}
use Rattle.giop_mux.specs.Runs.{Hears as IsTold, IsTaken as TakesOut}
use Rattle.giop_mux.specs.declared.step.Step.{Step}
use Rattle.giop_msg.specs.declared.msg.Msg.{Msg}
use Rattle.giop_msg.specs.RequestId.{request_id_of}
use Rattle.giop_end.specs.declared.session_fault.SessionFault.{SessionFault}
use Rattle.giop_table.specs.declared.plan.Plan.{Plan}
use Rattle.giop_table.specs.declared.plan.Planned.{Planned}
use Rattle.giop_table.specs.declared.slot.Slot.{Slot}
use Rattle.giop_table.specs.CallTable.{Act, Brings, Call, Held, Hears, at, IsTaken, Nothing, brought, taken, turn, turned}
use Rattle.giop_session.specs.Runs.Events.{Comes, Does, Event, Follows, Meets, is_of, own_events}
use Rattle.giop_end.specs.Hearing.Heard.{IsHeard, heard_by, SideOf, rules_at}
use Rattle.giop_session.specs.Runs.LeftToSend.{ArePlanned, IsLeft}
use Rattle.giop_table.specs.Sending.{sending_step, sends_of, unsent_of}

-- no message among these events ends the session
abbrev pub AreHeard : {V : Type 0} → (Msg → Option SessionFault) → List (Event V) → Type 0
AreHeard breaks [] = Unit {0}
AreHeard breaks (Comes m ∷ events) = (breaks m ≡ None) × AreHeard breaks events
AreHeard breaks (Does id act ∷ events) = AreHeard breaks events

module _ {R E V A F : Type 0} (side : SideOf R E V A F) where
  -- none that an end took does
  unbroken : (h k : Held R E) (m : Msg) (broken : Option SessionFault)
      → IsHeard (rules_at side h.rule) side.of_rule
      (heard_by broken (request_id_of m) (λ id. side.act_by m (at h id))) h (Ok tt) k → broken ≡ None
  unbroken h k m None is = refl
  unbroken h k m (Some why) (inl both) = absurd cc
  unbroken h k m (Some why) (inr both) = absurd cc

  pub met_heard : (h k : Held R E) (events : List (Event V))
      → Meets side h events k → AreHeard side.breaks events
  met_heard h k [] met = tt
  met_heard h k (Comes m ∷ events) (mid, first, rest) =
      (unbroken h mid m (side.breaks m) first, met_heard mid k events rest)
  met_heard h k (Does id act ∷ events) (mid, first, rest) = met_heard mid k events rest

heard_if : {V : Type 0} (breaks : Msg → Option SessionFault) (b : Bool) (e : Event V)
    (events : List (Event V)) → AreHeard breaks (e ∷ events) → AreHeard breaks events
    → AreHeard breaks (cond b (e ∷ events) events)
heard_if breaks true e events more whole = more
heard_if breaks false e events more whole = whole

pub own_heard : {V : Type 0} (breaks : Msg → Option SessionFault) (id : ℕ)
    (events : List (Event V)) → AreHeard breaks events → AreHeard breaks (own_events id events)
own_heard breaks id [] whole = whole
own_heard {V} breaks id (Comes m ∷ events) (sound, whole) =
    let rest = own_heard breaks id events whole in
    heard_if breaks (is_of {V = V} id (Comes m)) (Comes m) (own_events id events) (sound, rest) rest
own_heard breaks id (Does named act ∷ events) whole =
    let rest = own_heard breaks id events whole in
    heard_if breaks (is_of id (Does named act)) (Does named act) (own_events id events) rest rest

module _ {E V A F : Type 0} (next : Option E → V → Step E A F) (closed gathering : E → Bool)
    (left_of : E → ℕ) where
  -- what stands behind an act on a call
  abbrev pub behind : Call E → Act V → Call E
  behind call act = left call (turn next closed gathering call act)

  turned_left : (pieces : Option Pieces) (call : Call E) (slot : Option (Slot E)) (plan : Plan)
      (unsent : List Msg) (outcome : Result A F)
      → IsOk (turned gathering pieces slot (sends_of plan unsent outcome))
      → (IsOk outcome → IsLeft left_of slot)
      → IsLeft left_of (left call (turned gathering pieces slot (sends_of plan unsent outcome))).slot
  turned_left pieces call slot plan unsent (Ok answer) ok so = so ok
  turned_left pieces call slot plan unsent (Err fault) ok so = absurd cc

  -- an event leaves so many, where its step does
  pub event_left : (call : Call E) (planned : Planned V) (brings : Brings)
      → IsOk (turn next closed gathering call (Hears planned brings))
      → (IsOk (sending_step next call.slot planned).outcome
      → IsLeft left_of (sending_step next call.slot planned).entry)
      → IsLeft left_of (behind call (Hears planned brings)).slot
  event_left call planned brings ok so =
      turned_left (brought brings call.pieces) call (sending_step next call.slot planned).entry
      planned.plan (unsent_of call.slot) (sending_step next call.slot planned).outcome ok so

  -- none are left of an entry that is taken out
  taken_left : (call : Call E) (over : Option Bool) → IsOk (taken {E = E} {A = A} {F = F} over call)
      → IsLeft left_of (left call (taken {E = E} {A = A} {F = F} over call)).slot
  taken_left call None ok = refl
  taken_left call (Some true) ok = refl
  taken_left call (Some false) ok = absurd cc

  pub take_left : (call : Call E) → IsOk (turn next closed gathering call IsTaken)
      → IsLeft left_of (behind call IsTaken).slot
  take_left call ok = taken_left call (option_map (λ slot. closed slot.entry) call.slot) ok

  module _ (breaks : Msg → Option SessionFault) (act_by : Msg → Call E → Act V)
      (plans : V → Plan → Type 0)
      (heard : (m : Msg) (call : Call E) → breaks m ≡ None → IsLeft left_of call.slot
      → IsOk (turn next closed gathering call (act_by m call))
      → IsLeft left_of (behind call (act_by m call)).slot)
      (own : (slot : Option (Slot E)) (planned : Planned V) → plans planned.event planned.plan
      → IsLeft left_of slot → IsOk (sending_step next slot planned).outcome
      → IsLeft left_of (sending_step next slot planned).entry) where
    -- all of them
    pub followed : (call after : Call E) (events : List (Event V)) → AreHeard breaks events
        → ArePlanned plans events → IsLeft left_of call.slot
        → Follows (turn next closed gathering) act_by call events after
        → IsLeft left_of after.slot
    followed call after [] whole planned is follows = subst (λ c. IsLeft left_of c.slot) (sym follows) is
    followed call after (Comes m ∷ events) (sound, whole) planned is (ok, rest) =
        followed (behind call (act_by m call)) after events whole planned
        (heard m call sound is ok) rest
    followed call after (Does id (IsTold told) ∷ events) whole (so, planned) is (ok, rest) =
        followed (behind call (Hears told Nothing)) after events whole planned
        (event_left call told Nothing ok (own call.slot told so is)) rest
    followed call after (Does id TakesOut ∷ events) whole planned is (ok, rest) =
        followed (behind call IsTaken) after events whole planned (take_left call ok) rest

-- the events of one call are planned where all are
planned_if : {V : Type 0} (plans : V → Plan → Type 0) (b : Bool) (e : Event V)
    (events : List (Event V)) → ArePlanned plans (e ∷ events) → ArePlanned plans events
    → ArePlanned plans (cond b (e ∷ events) events)
planned_if plans true e events more planned = more
planned_if plans false e events more planned = planned

pub own_planned : {V : Type 0} (plans : V → Plan → Type 0) (id : ℕ) (events : List (Event V))
    → ArePlanned plans events → ArePlanned plans (own_events id events)
own_planned plans id [] planned = planned
own_planned {V} plans id (Comes m ∷ events) planned =
    let rest = own_planned plans id events planned in
    planned_if plans (is_of {V = V} id (Comes m)) (Comes m) (own_events id events) rest rest
own_planned plans id (Does named (IsTold told) ∷ events) (so, planned) =
    let rest = own_planned plans id events planned in
    planned_if plans (is_of id (Does named (IsTold told))) (Does named (IsTold told))
    (own_events id events) (so, rest) rest
own_planned {V} plans id (Does named TakesOut ∷ events) planned =
    let rest = own_planned plans id events planned in
    planned_if plans (is_of {V = V} id (Does named TakesOut)) (Does named TakesOut) (own_events id events)
    rest rest
