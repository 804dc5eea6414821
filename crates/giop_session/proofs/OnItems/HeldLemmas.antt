-- Whatever events a call follows are carried by some items, where each of them ends what is open or goes on with it.
use Rattle.std.proofs.Common.{◌≡◌, ℕ, Bool, true, false, cond, List, [], ◌∷◌, ◌++◌, map, Option, None, IsOk, refl, sym, ap, subst, ◌∙◌, append_assoc, append-nil, All}
use Rattle.giop_ids.specs.Runs.{left}
use Rattle.giop_msg.specs.declared.msg.Msg.{Msg}
use Rattle.giop_msg.specs.Msg.{IsMessage}
use Rattle.giop_msg.specs.Stream.{Unread}
use Rattle.giop_msg.proofs.StreamLemmas.{each_head, each_tail}
use Rattle.giop_mux.specs.Runs.{Hears as IsTold, IsTaken as TakesOut}
use Rattle.giop_session.specs.declared.laws.inputs.Answered.{Answered}
use Rattle.giop_end.specs.declared.session_fault.SessionFault.{SessionFault}
use Rattle.giop_table.specs.CallTable.{Act, Call, Held, Turned}
use Rattle.giop_session.specs.Items.Carries.{Carries, CarriesItem, Item, Telling, behind_all}
use Rattle.giop_session.specs.Runs.Driven.{Deed, IsAct, TakesAs}
use Rattle.giop_session.specs.Runs.Events.{Comes, Event, Follows, is_of, own_events, what, Does as DoesTo}
use Rattle.giop_session.specs.Runs.Inputs.{AreEvents, Does, Input, Reads}
use Rattle.giop_session.proofs.OnItems.ItemLemmas.{ItemLeaves, items_leave}
use Rattle.giop_session.proofs.OnRuns.FollowedLemmas.{AreHeard}
use Rattle.giop_end.specs.Hearing.Heard.{SideOf}

-- each of these is so
abbrev pub Each : {X : Type 0} → (X → Type 0) → List X → Type 0
Each P [] = Unit {0}
Each P (x ∷ xs) = P x × Each P xs

module _ {E V A F T Message : Type 0} (turn : Call E → Act V → Turned E A F) (act_by : Msg → Call E → Act V)
    (telling : Telling T Message V) (Stands : T → Call E → Type 0) (law : ItemLeaves turn act_by telling Stands)
    (IsMet : Event V → Type 0) (Away : T → Type 0) (Open : T → List Msg → Call E → Type 0) where
  -- a call behind an event
  abbrev pub after : Call E → Event V → Call E
  after call e = left call (turn call (what turn act_by e call))

  -- some items are carried by these events
  abbrev pub Said : T → List (Event V) → Type 0
  Said t events = (items : List (Item Message V)) × Carries telling t items events

  -- one is
  abbrev pub one_said : (t : T) (item : Item Message V) (events : List (Event V)) → CarriesItem telling t item events → Said t events
  one_said t item events carries = (item ∷ [], (events, [], sym (append-nil events), carries, refl))

  -- an event ends the messages that are open, which are said with it; or it goes on with them
  pub data Goes (t : T) (front : List Msg) (call : Call E) (e : Event V) : Type 0 where
    Ends : (said : Said t (map Comes front ++ e ∷ [])) → Away (behind_all telling t said.0) → Goes t front call e
    GoesOn : (m : Msg) → e ≡ Comes m → Open t (front ++ m ∷ []) (after call e) → Goes t front call e

  -- so each event of a call does; and what is open when there are no more is said, too
  pub record Steps : Type 0 where
    pub begins : (t : T) (call : Call E) (e : Event V) → Stands t call → Away t → IsMet e
        → IsOk (turn call (what turn act_by e call)) → Goes t [] call e
    pub goes_on : (t : T) (front : List Msg) (call : Call E) (e : Event V) → Open t front call → IsMet e
        → IsOk (turn call (what turn act_by e call)) → Goes t front call e
    pub stops : (t : T) (front : List Msg) (call : Call E) → Open t front call → Said t (map Comes front)

  -- items and then others
  carries_join : (one other : List (Item Message V)) (t : T) (events rest : List (Event V)) → Carries telling t one events
      → Carries telling (behind_all telling t one) other rest → Carries telling t (one ++ other) (events ++ rest)
  carries_join [] other t events rest carries next = subst (λ l. Carries telling t other (l ++ rest)) (sym carries) next
  carries_join (item ∷ one) other t events rest (a, b, e, carries, more) next = (
    a,
    b ++ rest,
    ap (λ l. l ++ rest) e ∙ append_assoc a b rest,
    carries,
    carries_join one other (telling.behind t item) b rest more next,
  )

  follows_more : (one : List (Event V)) (e : Event V) (start call : Call E) → Follows turn act_by start one call
      → IsOk (turn call (what turn act_by e call)) → Follows turn act_by start (one ++ e ∷ []) (after call e)
  follows_more [] e start call follows ok =
      subst (λ s. Follows turn act_by s (e ∷ []) (after call e)) follows (ok, refl)
  follows_more (d ∷ one) e start call follows ok = (follows.0, follows_more one e (after start d) call follows.1 ok)

  -- the messages that are open at a call, or none
  abbrev IsAt : T → List Msg → Call E → Type 0
  IsAt t [] call = Away t
  IsAt t (m ∷ front) call = Open t (m ∷ front) call

  at_more : (t : T) (front : List Msg) (m : Msg) (call : Call E) → Open t (front ++ m ∷ []) call → IsAt t (front ++ m ∷ []) call
  at_more t [] m call opened = opened
  at_more t (n ∷ front) m call opened = opened

  at_end : Steps → (t : T) (front : List Msg) (call : Call E) → IsAt t front call → Said t (map Comes front)
  at_end steps t [] call here = ([], refl)
  at_end steps t (m ∷ front) call here = steps.stops t (m ∷ front) call here

  one_step : Steps → (t : T) (front : List Msg) (start call : Call E) (e : Event V) → Stands t start
      → Follows turn act_by start (map Comes front) call → IsAt t front call → IsMet e
      → IsOk (turn call (what turn act_by e call)) → Goes t front call e
  one_step steps t [] start call e stands before here met ok = steps.begins t call e (subst (Stands t) (sym before) stands) here met ok
  one_step steps t (m ∷ front) start call e stands before here met ok = steps.goes_on t (m ∷ front) call e here met ok

  pub comes_more : (front : List Msg) (m : Msg) → ◌≡◌ {A = List (Event V)} (map Comes (front ++ m ∷ [])) (map Comes front ++ Comes m ∷ [])
  comes_more [] m = refl
  comes_more (n ∷ front) m = ap (λ l. Comes n ∷ l) (comes_more front m)

  -- the messages that are open are said with the last one
  pub ends_with : (t : T) (front : List Msg) (call : Call E) (m : Msg) (item : Item Message V)
      → CarriesItem telling t item (map Comes (front ++ m ∷ [])) → Away (telling.behind t item) → Goes t front call (Comes m)
  ends_with t front call m item carries away =
      Ends (one_said t item (map Comes front ++ Comes m ∷ []) (subst (CarriesItem telling t item) (comes_more front m) carries)) away

  comes_then : (front : List Msg) (m : Msg) (e : Event V) (events : List (Event V)) → e ≡ Comes m
      → map Comes (front ++ m ∷ []) ++ events ≡ map Comes front ++ e ∷ events
  comes_then front m e events is =
      ap (λ l. l ++ events) (comes_more front m) ∙ append_assoc (map Comes front) (Comes m ∷ []) events
      ∙ ap (λ e. map Comes front ++ e ∷ events) (sym is)

  -- what is said, and then the rest
  said_first : (t : T) (front : List Msg) (e : Event V) (events : List (Event V)) (said : Said t (map Comes front ++ e ∷ []))
      → Said (behind_all telling t said.0) events → Said t (map Comes front ++ e ∷ events)
  said_first t front e events said rest = (
    said.0 ++ rest.0,
    subst (Carries telling t (said.0 ++ rest.0)) (append_assoc (map Comes front) (e ∷ []) events)
        (carries_join said.0 rest.0 t (map Comes front ++ e ∷ []) events said.1 rest.1),
  )

  carried : Steps → (events : List (Event V)) (t : T) (front : List Msg) (start call k : Call E)
      → Stands t start → Follows turn act_by start (map Comes front) call → IsAt t front call
      → Each IsMet events → Follows turn act_by call events k → Said t (map Comes front ++ events)
  carried steps [] t front start call k stands before here met follows =
      subst (Said t) (sym (append-nil (map Comes front))) (at_end steps t front call here)
  carried steps (e ∷ events) t front start call k stands before here met follows =
      let behind = follows_more (map Comes front) e start call before follows.0 in
      elim (one_step steps t front start call e stands before here met.0 follows.0) [
        | Ends said away ↦ said_first t front e events said
            (carried steps events (behind_all telling t said.0) [] (after call e) (after call e) k
            (items_leave turn act_by telling Stands law said.0 t start (after call e) (map Comes front ++ e ∷ []) stands said.1 behind)
            refl away met.1 follows.1)
        | GoesOn m is opened ↦ subst (Said t) (comes_then front m e events is)
            (carried steps events t (front ++ m ∷ []) start (after call e) k stands
            (subst (λ l. Follows turn act_by start l (after call e)) (ap (λ e. map Comes front ++ e ∷ []) is ∙ sym (comes_more front m)) behind)
            (at_more t front m (after call e) opened) met.1 follows.1)
      ]

  -- so all that a call follows from where nothing is open
  pub all_said : Steps → (t : T) (call k : Call E) (events : List (Event V)) → Stands t call → Away t → Each IsMet events
      → Follows turn act_by call events k → Said t events
  all_said steps t call k events stands away met follows = carried steps events t [] call call k stands refl away met follows

-- what is known of an event that an end takes: a message was framed, and doesn't end the session; an act is one of the end's own calls
abbrev pub IsTakenEvent : {V : Type 0} → ℕ → (Msg → Option SessionFault) → (V → Bool) → Event V → Type 0
IsTakenEvent limit breaks own (Comes m) = IsMessage limit m × (breaks m ≡ None)
IsTakenEvent limit breaks own (DoesTo id (IsTold planned)) = own planned.event ≡ true
IsTakenEvent limit breaks own (DoesTo id TakesOut) = Unit {0}

-- an act of its own
abbrev pub IsOwnInput : {V : Type 0} → (V → Bool) → Input V → Type 0
IsOwnInput own (Reads octets) = Unit {0}
IsOwnInput own (Does id (IsTold planned)) = own planned.event ≡ true
IsOwnInput own (Does id TakesOut) = Unit {0}

module _ {V : Type 0} (limit : ℕ) (breaks : Msg → Option SessionFault) (own : V → Bool) where
  abbrev AreTaken : List (Event V) → Type 0
  AreTaken = Each (IsTakenEvent limit breaks own)

  messages_taken : (messages : List Msg) (rest : List (Event V)) → All (IsMessage limit) messages
      → AreHeard breaks (map Comes messages ++ rest) → (AreHeard breaks rest → AreTaken rest) → AreTaken (map Comes messages ++ rest)
  messages_taken [] rest each heard then = then heard
  messages_taken (m ∷ messages) rest each heard then =
      ((each_head limit m messages each, heard.0), messages_taken messages rest (each_tail limit m messages each) heard.1 then)

  -- the events of own acts are taken so
  pub events_taken : (acts : List (Input V)) (unread left : Unread) (events : List (Event V)) → AreEvents unread acts events left
      → unread.limit ≡ limit → Each (IsOwnInput own) acts → AreHeard breaks events → AreTaken events
  events_taken [] unread left events are same owned heard = subst AreTaken (sym are.0) tt
  events_taken (Reads octets ∷ acts) unread left events (messages, mid, rest, taken, waits, is, are) same owned heard =
      subst AreTaken (sym is) (messages_taken messages rest (subst (λ n. All (IsMessage n) messages) same taken.each)
      (subst (AreHeard breaks) is heard)
      (λ others. events_taken acts mid left rest are (taken.limit ∙ same) owned.1 others))
  events_taken (Does id (IsTold planned) ∷ acts) unread left events (rest, is, are) same owned heard =
      subst AreTaken (sym is) (owned.0, events_taken acts unread left rest are same owned.1 (subst (AreHeard breaks) is heard))
  events_taken (Does id TakesOut ∷ acts) unread left events (rest, is, are) same owned heard =
      subst AreTaken (sym is) (tt, events_taken acts unread left rest are same owned.1 (subst (AreHeard breaks) is heard))

-- so are those of one call
each_if : {X : Type 0} (P : X → Type 0) (b : Bool) (x : X) (xs : List X) → P x → Each P xs → Each P (cond b (x ∷ xs) xs)
each_if P true x xs first rest = (first, rest)
each_if P false x xs first rest = rest

pub own_each : {V : Type 0} (P : Event V → Type 0) (id : ℕ) (events : List (Event V)) → Each P events → Each P (own_events id events)
own_each P id [] each = tt
own_each P id (e ∷ events) each = each_if P (is_of id e) e (own_events id events) each.0 (own_each P id events each.1)

module _ {R E V A F I : Type 0} (side : SideOf R E V A F)
    (deed : Held R E → I → Deed V F) (own : V → Bool)
    (owns : (h : Held R E) (input : I) (act : Input V) → IsAct (deed h input) act → IsOwnInput own act) where
  -- inputs that are taken are acts of its own
  pub acts_owned : (inputs : List I) (answers : List (Answered E)) (acts : List (Input V)) (unread left : Unread) (h k : Held R E)
      → TakesAs side deed unread h inputs answers acts left k → Each (IsOwnInput own) acts
  acts_owned [] [] acts unread left h k (none, same, alike) = subst (Each (IsOwnInput own)) (sym none) tt
  acts_owned [] (answered ∷ answers) acts unread left h k taken = absurd taken
  acts_owned (input ∷ inputs) [] acts unread left h k taken = absurd taken
  acts_owned (input ∷ inputs) (answered ∷ answers) acts unread left h k (act, rest, mid, calls, first, is, told, takes, behind) =
      subst (Each (IsOwnInput own)) (sym first) (owns h input act is, acts_owned inputs answers rest mid left calls k behind)
