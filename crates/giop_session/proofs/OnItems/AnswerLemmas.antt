-- What an end that refuses nothing answers for one id is what its items alone say.
use Rattle.std.proofs.Common.{◌≡◌, ℕ, Bool, true, false, cond, List, [], ◌∷◌, ◌++◌, ◌==◌, map, Option, Some, None, refl, sym, ap, subst, ◌∙◌, append-nil}
use Rattle.std.proofs.Common.{arith}
use Rattle.std.proofs.lemmas.Bool.Decides.{nat_tests}
use Rattle.std.specs.FinMap as finite
use Rattle.giop_ids.specs.Runs.{left}
use Rattle.giop_msg.specs.declared.msg.Msg.{Msg}
use Rattle.giop_msg.specs.Stream.{Unread}
use Rattle.giop_mux.specs.Runs.{Happening}
use Rattle.giop_mux.specs.Runs.{Hears as IsTold, IsTaken as IsTakenOut}
use Rattle.giop_session.specs.declared.laws.inputs.Answered.{Answered}
use Rattle.giop_session.specs.declared.laws.inputs.Answered.TheVariants as answer
use Rattle.giop_session.specs.Runs.Alone.{names}
use Rattle.giop_table.specs.CallTable.{Act, Call, Held, Turned, at}
use Rattle.giop_session.specs.Items.Carries.{Bad, Begun, Cancel, Carries, CarriesItem, Did, Got, Item, Rest, Telling, done_by}
use Rattle.giop_session.specs.Runs.Driven.{Closes, Deed, Feeds, IsAct, PutsOut, TakesAs, TakesOut, answer_to, id_of, is_named, item_answers, own_answers, taken_answer}
use Rattle.giop_session.specs.Runs.Events.{Comes, Event, Follows, Local, Meets, act_of, is_of, own_events, Does as Happens}
use Rattle.giop_session.specs.Runs.Inputs.{AreEvents, Does, Input, Reads}
use Rattle.giop_table.specs.Sending.{entry_of}
use Rattle.giop_session.proofs.OnRuns.EventLemmas.{each_follows, rule_stays}
use Rattle.giop_session.proofs.OnRuns.InputLemmas.{takes_events}
use Rattle.giop_session.proofs.OnItems.ItemLemmas.{ItemLeaves, in_two}
use Rattle.giop_end.specs.Hearing.Heard.{SideOf, turn_at}

-- one more in front, if it is
one_in_front : {X : Type 0} (b : Bool) (x : X) (rest : List X) → cond b (x ∷ rest) rest ≡ cond b (x ∷ []) [] ++ rest
one_in_front true x rest = refl
one_in_front false x rest = refl

-- the events of an id, of events in two parts
own_events-append : {V : Type 0} (id : ℕ) (one rest : List (Event V)) → own_events id (one ++ rest) ≡ own_events id one ++ own_events id rest
own_events-append id [] rest = refl
own_events-append {V} id (e ∷ one) rest = by_name (is_of id e) (own_events id (one ++ rest)) (own_events-append id one rest)
  where
    by_name : (own : Bool) (all : List (Event V)) → all ≡ own_events id one ++ own_events id rest
        → cond own (e ∷ all) all ≡ cond own (e ∷ own_events id one) (own_events id one) ++ own_events id rest
    by_name true all is = ap (λ events. e ∷ events) is
    by_name false all is = is

module _ {E V A F : Type 0} (turn_of : Call E → Act V → Turned E A F) (act_by : Msg → Call E → Act V) where
  -- what one call answers to its own acts among these events, one after another
  abbrev pub answers_alone : Call E → List (Event V) → List (Answered E)
  answers_alone call [] = []
  answers_alone call (Comes m ∷ events) = answers_alone (left call (turn_of call (act_by m call))) events
  answers_alone call (Happens id act ∷ events) =
      answer_to (entry_of call.slot) act ∷ answers_alone (left call (turn_of call (act_of act))) events

  in_parts : (call mid : Call E) (one rest : List (Event V)) → Follows turn_of act_by call one mid
      → answers_alone call (one ++ rest) ≡ answers_alone call one ++ answers_alone mid rest
  in_parts call mid [] rest follows = ap (λ c. answers_alone c rest) (sym follows)
  in_parts call mid (Comes m ∷ one) rest (ok, follows) = in_parts (left call (turn_of call (act_by m call))) mid one rest follows
  in_parts call mid (Happens id act ∷ one) rest (ok, follows) =
      ap (λ answers. answer_to (entry_of call.slot) act ∷ answers) (in_parts (left call (turn_of call (act_of act))) mid one rest follows)

  -- to messages nothing is answered
  silent : (call : Call E) (messages : List Msg) → answers_alone call (map Comes messages) ≡ []
  silent call [] = refl
  silent call (m ∷ messages) = silent (left call (turn_of call (act_by m call))) messages

  own_silent : (id : ℕ) (call : Call E) (messages : List Msg) → answers_alone call (own_events id (map Comes messages ++ [])) ≡ []
  own_silent id call [] = refl
  own_silent id call (m ∷ messages) =
      by_name (names m id) (own_silent id (left call (turn_of call (act_by m call))) messages) (own_silent id call messages)
    where
      by_name : (own : Bool)
          → answers_alone (left call (turn_of call (act_by m call))) (own_events id (map Comes messages ++ [])) ≡ []
          → answers_alone call (own_events id (map Comes messages ++ [])) ≡ []
          → answers_alone call (cond own (Comes m ∷ own_events id (map Comes messages ++ [])) (own_events id (map Comes messages ++ []))) ≡ []
      by_name true behind same = behind
      by_name false behind same = same

  module _ {T Message : Type 0} (telling : Telling T Message V) (entry_in : T → Option E) where
    abbrev Shows : T → Call E → Type 0
    Shows t call = entry_of call.slot ≡ entry_in t

    abbrev answers_of : T → List (Item Message V) → List (Answered E)
    answers_of = item_answers telling entry_in

    same_answer : (entry shown : Option E) (local : Local V) (act : Happening V) → entry ≡ shown → done_by local ≡ act
        → answer_to shown act ≡ answer_to entry local
    same_answer entry shown (IsTold planned) act same is = subst (λ a. answer_to shown a ≡ answer.Done) is refl
    same_answer entry shown IsTakenOut act same is = subst (λ a. answer_to shown a ≡ answer.Taken entry) is (ap answer.Taken (sym same))

    no_answer : (call : Call E) (events : List (Event V)) (messages : List Msg) (answers : List (Answered E)) → events ≡ map Comes messages
        → answers ≡ answers_alone call events ++ answers
    no_answer call events messages answers is =
        ap (λ before. before ++ answers) (sym (ap (answers_alone call) is ∙ silent call messages))

    one_item : (t : T) (call : Call E) (item : Item Message V) (items : List (Item Message V)) (events : List (Event V)) → Shows t call
        → CarriesItem telling t item events
        → answers_of t (item ∷ items) ≡ answers_alone call events ++ answers_of (telling.behind t item) items
    one_item t call (Got message) items events shows (kind, version, order, messages, is, series, spells) = no_answer call events messages _ is
    one_item t call (Bad kind version order octets) items events shows (messages, is, series, same, none) = no_answer call events messages _ is
    one_item t call (Begun kind) items events shows (version, order, messages, is, series) = no_answer call events messages _ is
    one_item t call (Rest ends) items events shows (was, messages, is, fragments) = no_answer call events messages _ is
    one_item t call Cancel items events shows (m, cancels, is) = no_answer call events (m ∷ []) _ is
    one_item t call (Did act) items events shows (id, local, does, is) =
        ap (λ answered. answered ∷ answers_of (telling.behind t (Did act)) items) (same_answer (entry_of call.slot) (entry_in t) local act shows does)
        ∙ ap (λ before. before ++ answers_of (telling.behind t (Did act)) items) (sym (ap (answers_alone call) is))

    -- what one call answers is what its items say
    pub items_answer : ItemLeaves turn_of act_by telling Shows → (items : List (Item Message V)) (t : T) (call after : Call E) (events : List (Event V))
        → Shows t call → Carries telling t items events → Follows turn_of act_by call events after
        → answers_alone call events ≡ answers_of t items
    items_answer law [] t call after events shows carries follows = ap (answers_alone call) carries
    items_answer law (item ∷ items) t call after events shows (one, rest, e, carries, more) follows =
        let parts = in_two turn_of act_by telling Shows call after one rest (subst (λ l. Follows turn_of act_by call l after) e follows) in
        let behind = items_answer law items (telling.behind t item) parts.0 after rest (law t call parts.0 item one shows carries parts.1) more parts.2 in
        ap (answers_alone call) e ∙ in_parts call parts.0 one rest parts.1 ∙ ap (λ answers. answers_alone call one ++ answers) behind
        ∙ sym (one_item t call item items one shows carries)

-- the id whose call an act is about
abbrev act_id : {V : Type 0} → Input V → Option ℕ
act_id (Reads octets) = None
act_id (Does id act) = Some id

same_id : {V F : Type 0} (deed : Deed V F) (act : Input V) → IsAct deed act → id_of deed ≡ act_id act
same_id (Feeds octets) act is = sym (ap act_id is)
same_id (PutsOut id refusal Plans) act (planned, plans, is) = sym (ap act_id is)
same_id (TakesOut id) act is = sym (ap act_id is)
same_id Closes act is = absurd is

-- the events of one act, and then of those behind it
more_events : {V : Type 0} (act : Input V) (acts : List (Input V)) (unread mid left : Unread) (one rest : List (Event V))
    → AreEvents unread (act ∷ []) one mid → AreEvents mid acts rest left → AreEvents unread (act ∷ acts) (one ++ rest) left
more_events (Reads octets) acts unread mid left one rest (messages, read, others, taken, waits, is, (none, same)) behind = (
  messages,
  read,
  rest,
  taken,
  waits,
  ap (λ events. events ++ rest) (is ∙ ap (λ events. map Comes messages ++ events) none ∙ append-nil (map Comes messages)),
  subst (λ u. AreEvents u acts rest left) same behind,
)
more_events (Does id act) acts unread mid left one rest (others, is, (none, same)) behind = (
  rest,
  ap (λ events. events ++ rest) (is ∙ ap (λ events. Happens id act ∷ events) none),
  subst (λ u. AreEvents u acts rest left) same behind,
)

module _ {R E V A F : Type 0} (side : SideOf R E V A F) where
  abbrev MeetsAll : Held R E → List (Event V) → Held R E → Type 0
  MeetsAll = Meets side

  abbrev pub answers_by : R → Call E → List (Event V) → List (Answered E)
  answers_by rule = answers_alone (turn_at side rule) side.act_by

  meets_more : (h mid k : Held R E) (one rest : List (Event V)) → MeetsAll h one mid → MeetsAll mid rest k → MeetsAll h (one ++ rest) k
  meets_more h mid k [] rest met behind = subst (λ s. MeetsAll s rest k) met behind
  meets_more h mid k (e ∷ one) rest (after, first, met) behind = (after, first, meets_more after mid k one rest met behind)

  -- what is answered to one act
  one_answer : (unread mid : Unread) (h : Held R E) (act : Input V) (events : List (Event V)) → AreEvents unread (act ∷ []) events mid → (id : ℕ)
      → answers_by h.rule (at h id) (own_events id events) ≡ cond (is_named id (act_id act)) (taken_answer h act ∷ []) []
  one_answer unread mid h (Reads octets) events (messages, read, others, taken, waits, is, (none, same)) id =
      ap (λ all. answers_by h.rule (at h id) (own_events id all)) (is ∙ ap (λ more. map Comes messages ++ more) none)
      ∙ own_silent (turn_at side h.rule) side.act_by id (at h id) messages
  one_answer unread mid h (Does named act) events (others, is, (none, same)) id =
      ap (λ all. answers_by h.rule (at h id) (own_events id all)) (is ∙ ap (λ more. Happens named act ∷ more) none) ∙ by_name (id == named) refl
    where
      by_name : (own : Bool) → (id == named) ≡ own
          → answers_by h.rule (at h id) (cond own (Happens named act ∷ []) [])
          ≡ cond own (answer_to (entry_of (finite.get h.table named)) act ∷ []) []
      by_name true own = let to : id ≡ named = grind (arith, nat_tests) in ap (λ q. answer_to (entry_of (finite.get h.table q)) act ∷ []) to
      by_name false own = refl

  module _ {I : Type 0} (deed : Held R E → I → Deed V F) (named : I → Option ℕ)
      (names_it : (h : Held R E) (input : I) → id_of (deed h input) ≡ named input) where
    -- an end that refuses nothing meets events, and each id's answers are those of its own alone
    pub taken_answers : (inputs : List I) (answers : List (Answered E)) (acts : List (Input V)) (unread left : Unread) (h k : Held R E)
        → TakesAs side deed unread h inputs answers acts left k
        → (events : List (Event V)) × AreEvents unread acts events left × MeetsAll h events k
        × ((id : ℕ) → own_answers named id inputs answers ≡ answers_by h.rule (at h id) (own_events id events))
    taken_answers [] [] acts unread left h k (none, same, alike) =
        ([], subst (λ a. AreEvents unread a [] left) (sym none) (refl, same), alike, λ id. refl)
    taken_answers [] (answered ∷ answers) acts unread left h k taken = absurd taken
    taken_answers (input ∷ inputs) [] acts unread left h k taken = absurd taken
    taken_answers (input ∷ inputs) (answered ∷ answers) acts unread left h k (act, rest, mid, calls, first, is, told, takes, behind) =
        let one = takes_events side (act ∷ []) unread mid h calls takes in
        let others = taken_answers inputs answers rest mid left calls k behind in
        let rule = rule_stays side h calls one.0 one.2 in (
          one.0 ++ others.0,
          subst (λ a. AreEvents unread a (one.0 ++ others.0) left) (sym first) (more_events act rest unread mid left one.0 others.0 one.1 others.1),
          meets_more h calls k one.0 others.0 one.2 others.2,
          λ id.
              let own = own_answers named id inputs answers in
              let before = answers_by h.rule (at h id) (own_events id one.0) in
              let here = ap (is_named id) (sym (names_it h input) ∙ same_id (deed h input) act is) in
              one_in_front (is_named id (named input)) answered own
              ∙ ap (λ b. cond b (answered ∷ []) [] ++ own) here
              ∙ ap (λ a. cond (is_named id (act_id act)) (a ∷ []) [] ++ own) told
              ∙ ap (λ answers. answers ++ own) (sym (one_answer unread mid h act one.0 one.1 id))
              ∙ ap (λ answers. before ++ answers)
              (subst (λ r. own ≡ answers_by r (at calls id) (own_events id others.0)) rule (others.3 id))
              ∙ sym (in_parts (turn_at side h.rule) side.act_by (at h id) (at calls id) (own_events id one.0) (own_events id others.0)
              (each_follows side h calls one.0 id one.2))
              ∙ ap (answers_by h.rule (at h id)) (sym (own_events-append id one.0 others.0)),
        )
