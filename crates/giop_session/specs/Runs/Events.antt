-- What an end meets: the messages of its peer, and its own acts on its calls; and what a run of
-- these leaves of each call.
use Rattle.std.specs.Prelude.{◌≡◌, ℕ, ◌==◌, Bool, if◌then◌else◌, List, [], ◌∷◌, None, Ok, IsOk}
use Rattle.giop_ids.specs.Runs.{left}
use Rattle.giop_ids.specs.Runs.{Does as DoesAct}
use Rattle.giop_msg.specs.declared.msg.Msg.{Msg}
use Rattle.giop_mux.specs.Runs.{Happening}
use Rattle.giop_mux.specs.Runs.{Hears as IsTold, IsTaken as TakesOut}
use Rattle.giop_table.specs.declared.plan.Planned.{Planned}
use Rattle.giop_session.specs.Runs.Alone.{names}
use Rattle.giop_table.specs.CallTable.{Act, Call, Held, Hears, IsTaken, Nothing, Reply, Turned, at}
use Rattle.giop_end.specs.Hearing.Heard.{SideOf, hears, rules_at, turn_at}

-- an act of an end on one of its calls: an event of its own, with the messages that are sent for
-- it, or that it takes the entry out
abbrev pub Local : Type 0 → Type 0
Local V = Happening (Planned V)

-- a message comes, or the end itself does something to the call of an id
pub data Event (V : Type 0) : Type 0 where
  Comes : Msg → Event V
  Does : ℕ → Local V → Event V

-- what the end's own act is to its call: it brings no octets
abbrev pub act_of : {V : Type 0} → Local V → Act V
act_of (IsTold planned) = Hears planned Nothing
act_of TakesOut = IsTaken

-- what an act is to the rule of its call, its messages and octets aside
abbrev pub happening : {V : Type 0} → Act V → Happening V
happening (Hears planned brings) = IsTold planned.event
happening IsTaken = TakesOut

-- an id under which nothing is stored
abbrev pub no_call : {E : Type 0} → Call E
no_call = record { slot = None; pieces = None }

-- whether an event is one of the call of an id
abbrev pub is_of : {V : Type 0} → ℕ → Event V → Bool
is_of id (Comes m) = names m id
is_of id (Does named act) = id == named

-- the events of an id, in their order
abbrev pub own_events : {V : Type 0} → ℕ → List (Event V) → List (Event V)
own_events id [] = []
own_events id (e ∷ events) =
    if is_of id e then e ∷ own_events id events else own_events id events

module _ {R E V A F : Type 0} (side : SideOf R E V A F) where
  -- an end meets an event, and doesn't refuse it
  abbrev pub Accepts : Event V → Held R E → Held R E → Type 0
  Accepts (Comes m) h k = hears side m h (Ok tt) k
  Accepts (Does id act) h k = (reply : Reply E A)
      × DoesAct (rules_at side h.rule) h (record { id = id; what = act_of act }) (Ok reply) k

  -- it meets these, one after another, and refuses none
  abbrev pub Meets : Held R E → List (Event V) → Held R E → Type 0
  Meets h [] k = k ≡ h
  Meets h (e ∷ events) k = (mid : Held R E) × Accepts e h mid × Meets mid events k

module _ {E V A F : Type 0} (turn : Call E → Act V → Turned E A F)
    (act_by : Msg → Call E → Act V) where
  -- what an event is to the call that it names
  abbrev pub what : Event V → Call E → Act V
  what (Comes m) call = act_by m call
  what (Does id act) call = act_of act

  -- one call meets these events, one after another; none is refused, and this is left of it
  abbrev pub Follows : Call E → List (Event V) → Call E → Type 0
  Follows call [] after = after ≡ call
  Follows call (e ∷ events) after = IsOk (turn call (what e call))
      × Follows (left call (turn call (what e call))) events after

  -- what these events are to its rule, one after another: a message as it is read where it comes
  abbrev pub history : Call E → List (Event V) → List (Happening V)
  history call [] = []
  history call (e ∷ events) =
      happening (what e call) ∷ history (left call (turn call (what e call))) events

module _ {R E V A F : Type 0} (side : SideOf R E V A F) where
  -- each call follows its own events, one after another, and none of them is refused
  abbrev pub EachFollows : Held R E → List (Event V) → Held R E → Type 0
  EachFollows h events k = (id : ℕ)
      → Follows (turn_at side h.rule) side.act_by (at h id) (own_events id events) (at k id)
