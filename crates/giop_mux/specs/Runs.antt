-- Acts on a table of calls: an event is applied, or an entry taken out.
use Rattle.std.specs.Prelude.{ℕ, Bool, true, false, List, map, Option, Some, None, Result, Ok, Err}
use Rattle.std.specs.Option.{option_map}
use Rattle.std.specs.FinMap as finite
use Rattle.giop_ids.specs.declared.addressed.Addressed.{Addressed}
use Rattle.giop_ids.specs.ById.{ById}
use Rattle.giop_ids.specs.Runs.{Done, Rules, table_rules}
use Rattle.giop_mux.specs.declared.step.Step.{Step}
use Rattle.giop_mux.specs.declared.refusal.Refusal.{Refusal}
use Rattle.giop_mux.specs.declared.refusal.StillOpen.{StillOpen}
use Rattle.giop_mux.specs.declared.refusal.Refusal.TheVariants.{Rule, TooManyCalls, NoMemory}
use Rattle.giop_mux.specs.Calls.{room_refusal}

-- what may befall a call: an event, or that its entry is taken out
pub data Happening (Event : Type 0) : Type 0 where
  Hears : Event → Happening Event
  IsTaken : Happening Event

-- what the table answers: to an event its rule's answer, to a take the entry, if there is one
pub data Reply (Answer Entry : Type 0) : Type 0 where
  Answers : Answer → Reply Answer Entry
  Gives : Option Entry → Reply Answer Entry

-- why it refuses: an event, or to take out the entry of an open call
pub data Denial (Fault : Type 0) : Type 0 where
  Refuses : Refusal Fault → Denial Fault
  IsOpen : Denial Fault

-- what `apply` returns to its caller, and what `take` returns
abbrev pub event_reply : {A E F : Type 0} → Result A (Refusal F) → Result (Reply A E) (Denial F)
event_reply (Ok answer) = Ok (Answers answer)
event_reply (Err refusal) = Err (Refuses refusal)

abbrev pub take_reply : {A E F : Type 0}
    → Result (Option E) StillOpen → Result (Reply A E) (Denial F)
take_reply (Ok entry) = Ok (Gives entry)
take_reply (Err open_call) = Err IsOpen

-- the events of a list, as acts
abbrev pub acts_of : {Event : Type 0}
    → List (Addressed Event) → List (Addressed (Happening Event))
acts_of told = map (λ one. record { id = one.id; what = Hears one.what }) told

-- whether a call's own rule refuses, and not the table, for its limit or when out of memory
abbrev pub is_of_call : {F : Type 0} → Denial F → Bool
is_of_call (Refuses (Rule fault)) = true
is_of_call (Refuses TooManyCalls) = false
is_of_call (Refuses NoMemory) = false
is_of_call IsOpen = true

-- what is done to a call and what it answers, or why not
abbrev pub Turned : (Entry Answer Fault : Type 0) → Type 0
Turned Entry Answer Fault = Result (Done (Option Entry) (Reply Answer Entry)) (Denial Fault)

module _ {Entry Event Answer Fault : Type 0}
    (next : Option Entry → Event → Step Entry Answer Fault) (closed : Entry → Bool) where
  -- what an event does to a call, by its rule
  abbrev pub stepped : Option Entry → Result Answer Fault → Turned Entry Answer Fault
  stepped entry (Ok answer) = Ok (record { now = entry; answer = Answers answer })
  stepped entry (Err fault) = Err (Refuses (Rule fault))

  -- what a take does: an entry goes, unless its call is open
  abbrev pub taken : Option Bool → Option Entry → Turned Entry Answer Fault
  taken None entry = Ok (record { now = None; answer = Gives entry })
  taken (Some true) entry = Ok (record { now = None; answer = Gives entry })
  taken (Some false) entry = Err IsOpen

  -- what befalls a call, whatever its table holds of other calls
  abbrev pub turn : Option Entry → Happening Event → Turned Entry Answer Fault
  turn entry (Hears event) = stepped (next entry event).entry (next entry event).outcome
  turn entry IsTaken = taken (option_map closed entry) entry

  -- why a table has no room for what it leaves, if it has none
  abbrev pub room : ℕ → ById Entry → ℕ → Happening Event → Option (Denial Fault)
  room limit m id (Hears event) =
      option_map Refuses (room_refusal m limit id (next (finite.get m id) event).entry)
  room limit m id IsTaken = None

  -- how a table of calls is kept, of at most so many entries
  abbrev pub call_rules : ℕ → Rules (ById Entry) (Option Entry) (Happening Event)
      (Reply Answer Entry) (Denial Fault)
  call_rules limit = table_rules turn (λ m act. room limit m act.id act.what) (Refuses NoMemory)
