-- A list of inputs that an end is given, one after another, and what it answers to each: a run
-- continues behind a refusal.
use Rattle.std.specs.Prelude.{◌≡◌, ◌≢◌, ℕ, ◌==◌, ◌++◌, Bool, false, if◌then◌else◌, List, [], ◌∷◌, Option, Some, None, Result, Ok, Err}
use Rattle.std.specs.Option.{option_map}
use Rattle.std.specs.FinMap as finite
use Rattle.giop_cdr.specs.declared.order.Order.TheVariants.{Big}
use Rattle.giop_ids.specs.Runs.{Does}
use Rattle.giop_msg.specs.Msg.{message_octets}
use Rattle.giop_msg.specs.Stream.{Unread}
use Rattle.giop_mux.specs.Runs.{Happening}
use Rattle.giop_mux.specs.Runs.{Hears as IsTold, IsTaken as IsTakenOut}
use Rattle.giop_session.specs.declared.laws.inputs.Answered.{Answered}
use Rattle.giop_session.specs.declared.laws.inputs.Answered.TheVariants as answer
use Rattle.giop_table.specs.declared.plan.Planned.{Planned}
use Rattle.giop_end.specs.declared.session_fault.SessionFault.{SessionFault}
use Rattle.giop_end.specs.declared.session_fault.SessionFault.TheVariants.{Closed, NoMemory, StillOpen}
use Rattle.giop_end.specs.Ends.Begun.{EndState}
use Rattle.giop_table.specs.CallTable.{Gives, Held, IsTaken}
use Rattle.giop_session.specs.Items.Carries.{Bad, Begun, Cancel, Did, Got, Item, Rest, Telling}
use Rattle.giop_end.specs.Hearing.Feeding.{Fed, standing, with_octets}
use Rattle.giop_end.specs.Hearing.Heard.{SideOf, rules_at, hears}
use Rattle.giop_session.specs.Runs.Inputs.{Input, Takes, Reads, Does as DoesTo}
use Rattle.giop_end.specs.Acts.Putting.{Puts}
use Rattle.giop_table.specs.Sending.{entry_of}
use Rattle.giop_end.specs.Acts.Sent.{close_connection}

-- something is given inputs in turn, and answers each; a step says what one input does to it
module _ {S I A : Type 0} (Steps : S → I → A → S → Type 0) where
  abbrev pub InTurn : S → List I → List A → S → Type 0
  InTurn s [] [] t = t ≡ s
  InTurn s [] (answered ∷ answers) t = ⊥
  InTurn s (input ∷ inputs) [] t = ⊥
  InTurn s (input ∷ inputs) (answered ∷ answers) t =
      (mid : S) × Steps s input answered mid × InTurn mid inputs answers t

-- what an input is to an end
pub data Deed (V F : Type 0) : Type 1 where
  -- octets of the peer are fed
  Feeds : List ℕ → Deed V F
  -- its program does something to the call of an id: that is refused for this, or else an event
  -- that is planned so acts on the call
  PutsOut : ℕ → Option F → (Planned V → Type 0) → Deed V F
  -- its program takes the entry of an id out
  TakesOut : ℕ → Deed V F
  -- its program closes the connection
  Closes : Deed V F

-- the id whose call it is about, if it is about one
abbrev pub id_of : {V F : Type 0} → Deed V F → Option ℕ
id_of (Feeds octets) = None
id_of (PutsOut id refusal Plans) = Some id
id_of (TakesOut id) = Some id
id_of Closes = None

-- what is answered to an input, by what the call for it answered
abbrev pub answer_of : {E : Type 0} → Result (Unit {0}) SessionFault → Answered E
answer_of (Ok done) = answer.Done
answer_of (Err why) = answer.Refused why

abbrev pub taken_answer_of : {E : Type 0} → Result (Option E) SessionFault → Answered E
taken_answer_of (Ok entry) = answer.Taken entry
taken_answer_of (Err why) = answer.Refused why

-- what a call that is made for an input comes to, by what is answered
abbrev pub Says : {E : Type 0} → Answered E → (Result (Unit {0}) SessionFault → Type 0) → Type 0
Says answer.Done Is = Is (Ok tt)
Says (answer.Refused why) Is = Is (Err why)
Says (answer.Taken entry) Is = ⊥

-- a CloseConnection is put out, and the end is closed; only being out of memory refuses it
abbrev pub IsClosed : {H : Type 0} → EndState H → Result (Unit {0}) SessionFault → EndState H
    → Type 0
IsClosed s (Ok done) t = t ≡ record s {
  outgoing = s.outgoing ++ message_octets (close_connection Big);
  fault = Some Closed;
}
IsClosed s (Err why) t = ⊥

-- no input was refused
abbrev pub NoneRefused : {E : Type 0} → List (Answered E) → Type 0
NoneRefused [] = Unit {0}
NoneRefused (answer.Done ∷ answers) = NoneRefused answers
NoneRefused (answer.Taken entry ∷ answers) = NoneRefused answers
NoneRefused (answer.Refused why ∷ answers) = ⊥

-- an input that isn't refused, as one of those that an end takes
abbrev pub IsAct : {V F : Type 0} → Deed V F → Input V → Type 0
IsAct (Feeds octets) act = act ≡ Reads octets
IsAct {V} (PutsOut id refusal Plans) act =
    (planned : Planned V) × Plans planned × (act ≡ DoesTo id (IsTold planned))
IsAct (TakesOut id) act = act ≡ DoesTo id IsTakenOut
IsAct Closes act = ⊥

-- what is answered to an act that is taken, by the entry that is stored for its id
abbrev pub answer_to : {E X : Type 0} → Option E → Happening X → Answered E
answer_to entry (IsTold event) = answer.Done
answer_to entry IsTakenOut = answer.Taken entry

-- and to an input
abbrev pub taken_answer : {R E V : Type 0} → Held R E → Input V → Answered E
taken_answer h (Reads octets) = answer.Done
taken_answer h (DoesTo id act) = answer_to (entry_of (finite.get h.table id)) act

-- whether this is the id that is named, if one is
abbrev pub is_named : ℕ → Option ℕ → Bool
is_named id None = false
is_named id (Some named) = id == named

-- the answers to the inputs that name an id, in their order
abbrev pub own_answers : {I E : Type 0} → (I → Option ℕ) → ℕ → List I → List (Answered E)
    → List (Answered E)
own_answers named id [] answers = []
own_answers named id (input ∷ inputs) [] = []
own_answers named id (input ∷ inputs) (answered ∷ answers) =
    if is_named id (named input) then answered ∷ own_answers named id inputs answers
    else own_answers named id inputs answers

-- what an end answers for one call of which these items are said, where it refuses none: to what it
-- does itself; T is what is known of a call, its entry with it
module _ {T Message V E : Type 0} (telling : Telling T Message V) (entry_in : T → Option E) where
  abbrev pub item_answers : T → List (Item Message V) → List (Answered E)
  item_answers t [] = []
  item_answers t (Did act ∷ items) =
      answer_to (entry_in t) act ∷ item_answers (telling.behind t (Did act)) items
  item_answers t (Got message ∷ items) = item_answers (telling.behind t (Got message)) items
  item_answers t (Bad kind version order octets ∷ items) =
      item_answers (telling.behind t (Bad kind version order octets)) items
  item_answers t (Begun kind ∷ items) = item_answers (telling.behind t (Begun kind)) items
  item_answers t (Rest ends ∷ items) = item_answers (telling.behind t (Rest ends)) items
  item_answers t (Cancel ∷ items) = item_answers (telling.behind t Cancel) items

module _ {R E V A F : Type 0} (side : SideOf R E V A F) where
  -- what is stored for an id is taken out and returned, unless its call is open
  abbrev pub IsTakenFrom : ℕ → EndState (Held R E) → Answered E → EndState (Held R E) → Type 0
  IsTakenFrom id s (answer.Taken entry) t =
      (entry ≡ entry_of (finite.get s.calls.table id))
      × Does (rules_at side s.calls.rule) s.calls
      (record { id = id; what = IsTaken }) (Ok (Gives (finite.get s.calls.table id))) t.calls
      × (t ≡ record s { calls = t.calls })
  IsTakenFrom id s (answer.Refused why) t = (why ≡ StillOpen)
      × (option_map (λ slot. side.closed s.calls.rule slot.entry) (finite.get s.calls.table id)
      ≡ Some false) × (t ≡ s)
  IsTakenFrom id s answer.Done t = ⊥

  -- what an input does to an end that continues, and what is answered
  abbrev pub IsDoneBy : Deed V F → EndState (Held R E) → Answered E → EndState (Held R E) → Type 0
  IsDoneBy (Feeds octets) s answered t = Says answered (λ result.
      Fed (hears side) (with_octets s.unread octets)
      s.calls result t.unread t.calls
      × (t ≡ record s { unread = t.unread; calls = t.calls; fault = standing result }))
  IsDoneBy (PutsOut id refusal Plans) s answered t = Says answered (λ result.
      Puts (rules_at side s.calls.rule) side.of_rule id refusal Plans
      s.calls s.outgoing result t.calls t.outgoing
      × (t ≡ record s { calls = t.calls; outgoing = t.outgoing }))
  IsDoneBy (TakesOut id) s answered t = IsTakenFrom id s answered t
  IsDoneBy Closes s answered t = Says answered (λ result. IsClosed s result t)

  -- a failed end answers its fault, and stays
  abbrev pub IsGivenBy : Option SessionFault → Deed V F → EndState (Held R E) → Answered E
      → EndState (Held R E) → Type 0
  IsGivenBy (Some why) deed s answered t = (answered ≡ answer.Refused why) × (t ≡ s)
  IsGivenBy None deed s answered t = IsDoneBy deed s answered t

  -- an end is given an input, and memory is there
  abbrev pub IsGiven : Deed V F → EndState (Held R E) → Answered E → EndState (Held R E) → Type 0
  IsGiven deed s answered t =
      (answered ≢ answer.Refused NoMemory) × IsGivenBy s.fault deed s answered t

  module _ {I : Type 0} (deed : Held R E → I → Deed V F) where
    -- an end is given inputs, one after another, and answers each
    abbrev pub EndRuns : EndState (Held R E) → List I → List (Answered E)
        → EndState (Held R E) → Type 0
    EndRuns = InTurn (λ s input answered t. IsGiven (deed s.calls input) s answered t)

    -- an end takes inputs as these acts, each by what it is to the calls that stand then, and
    -- refuses none; these are its answers, this is unread then, and these are its calls
    abbrev pub TakesAs : Unread → Held R E → List I → List (Answered E) → List (Input V) → Unread
        → Held R E → Type 0
    TakesAs unread h [] [] acts left k = (acts ≡ []) × (left ≡ unread) × (k ≡ h)
    TakesAs unread h [] (answered ∷ answers) acts left k = ⊥
    TakesAs unread h (input ∷ inputs) [] acts left k = ⊥
    TakesAs unread h (input ∷ inputs) (answered ∷ answers) acts left k =
        (act : Input V) × (rest : List (Input V)) × (mid : Unread) × (calls : Held R E)
        × (acts ≡ act ∷ rest) × IsAct (deed h input) act × (answered ≡ taken_answer h act)
        × Takes side unread h (act ∷ []) mid calls
        × TakesAs mid calls inputs answers rest left k
