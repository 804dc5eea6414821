-- A run keeps calls apart, by what holds of the inputs of its side.
use Rattle.std.proofs.Common.{◌≡◌, ℕ, Bool, List, Some, None, IsOk, refl, sym, ap, subst, ◌∙◌}
use Rattle.std.specs.FinMap as finite
use Rattle.std.specs.List.{AllByRecursion}
use Rattle.std.specs.Ordering.{nat_cmp}
use Rattle.giop_ids.specs.Runs.{alone as all_steps, told_alone}
use Rattle.giop_msg.specs.Stream.{Unread}
use Rattle.giop_mux.specs.Runs.{Happening}
use Rattle.giop_mux.specs.Runs as mux
use Rattle.giop_session.specs.declared.laws.inputs.Answered.{Answered}
use Rattle.giop_end.specs.declared.limits.Limits.{Limits}
use Rattle.giop_end.specs.Ends.Begun.{no_calls, EndState, new_end}
use Rattle.giop_table.specs.CallTable.{Call, Held, at, entry_at}
use Rattle.giop_table.specs.Sending.{entry_of}
use Rattle.giop_end.specs.Hearing.Heard.{turn_at}
use Rattle.giop_session.specs.Items.Carries.{Carries, Item, behind_all}
use Rattle.giop_session.specs.Runs.Driven.{Feeds, IsAct, NoneRefused, id_of, item_answers, own_answers}
use Rattle.giop_session.specs.Runs.Events.{Event, Follows, Meets, no_call, own_events}
use Rattle.giop_session.specs.Runs.Fits.{Fits, IsAsAlone, IsAsSaid, KeepsCallsApart, SaysAlone, Stands, history_of, only}
use Rattle.giop_session.specs.Runs.Inputs.{Input}
use Rattle.giop_end.specs.Hearing.Feeding.{nothing_unread}
use Rattle.giop_session.specs.Runs.Met.{given_alone}
use Rattle.giop_session.specs.Runs.RunLimits.{NoneForALimit}
use Rattle.giop_session.specs.Runs.SideRuns.{ActsHold, EntriesAre, RunOf, SameEntries, SideHolds, SideRuns, SideTakes, SideTakesAs, SideTakesItems}
use Rattle.giop_session.proofs.OnItems.AnswerLemmas.{items_answer, taken_answers}
use Rattle.giop_session.proofs.OnItems.HeldLemmas.{Each, IsOwnInput, IsTakenEvent, acts_owned, events_taken, own_each}
use Rattle.giop_session.proofs.OnItems.ItemLemmas.{ItemLeaves, items_leave}
use Rattle.giop_session.proofs.OnRuns.AheadLemmas.{IsPlannedOnce}
use Rattle.giop_session.proofs.OnRuns.AloneLemmas.{IsDeedOf, deed_named, new_run_alone, only_own}
use Rattle.giop_session.proofs.OnRuns.DrivenLemmas.{run_taken, taken_takes}
use Rattle.giop_session.proofs.OnRuns.EventLemmas.{each_follows}
use Rattle.giop_session.proofs.OnRuns.FollowedLemmas.{met_heard}
use Rattle.giop_session.proofs.OnRuns.HistoryLemmas.{follows_steps}
use Rattle.giop_session.proofs.OnRuns.InputLemmas.{same_events, takes_events}

-- what holds of the inputs of a side, and of what is said of its calls
pub record IsRun {R E V A F I T Message : Type 0} (run : RunOf R E V A F I T Message) : Type 1 where
  -- an input is to an end what it is told apart as
  pub is_deed : (limits : Limits) (h : Held R E) (input : I)
      → IsDeedOf (run.sorting.fed input) (run.sorting.named input) (run.deed limits h input)
  pub feeds : (limits : Limits) (h : Held R E) (octets : List ℕ) → run.deed limits h (run.sorting.feeds octets) ≡ Feeds octets
  pub feeds_none : (octets : List ℕ) → run.sorting.named (run.sorting.feeds octets) ≡ None
  -- that depends on its own call alone, and is planned in one way
  pub same_deed : (limits : Limits) (h k : Held R E) (input : I) (id : ℕ) → run.sorting.named input ≡ Some id → at h id ≡ at k id
      → run.deed limits h input ≡ run.deed limits k input
  pub once : (limits : Limits) (h : Held R E) (input : I) → IsPlannedOnce (run.deed limits h input)
  -- it is an event of the end's own
  pub own : V → Bool
  pub owns : (limits : Limits) (h : Held R E) (input : I) (act : Input V) → IsAct (run.deed limits h input) act → IsOwnInput own act
  -- inputs within the limits meet none
  pub free : (limits : Limits) (inputs : List I) (answers : List (Answered E)) (t : EndState (Held R E)) → run.Within limits inputs
      → SideRuns run limits inputs answers t → NoneForALimit answers
  -- no entry is known at first
  pub first : run.entry_in run.unknown ≡ None
  -- an item leaves what is said
  pub leaves : ItemLeaves (turn_at run.side run.rule) run.side.act_by run.telling (λ t call. entry_of call.slot ≡ run.entry_in t)
  -- some items say whatever a call follows
  pub said : (limits : Limits) (call k : Call E) (events : List (Event V)) → entry_of call.slot ≡ None
      → Each (IsTakenEvent limits.message run.side.breaks own) events
      → Follows (turn_at run.side run.rule) run.side.act_by call events k
      → (items : List (Item Message V)) × Carries run.telling run.unknown items events

module _ {R E V A F I T Message : Type 0} (run : RunOf R E V A F I T Message) (is : IsRun run) (limits : Limits) where
  abbrev begun : Held R E
  begun = no_calls run.rule limits

  names_it : (h : Held R E) (input : I) → id_of (run.deed limits h input) ≡ run.sorting.named input
  names_it h input = deed_named (run.sorting.fed input) (run.sorting.named input) (run.deed limits h input) (is.is_deed limits h input)

  -- nothing is stored at a new end
  none_stored : (id : ℕ) → entry_of (at begun id).slot ≡ None
  none_stored id = ap entry_of (finite.get-empty nat_cmp id)

  none_yet : (id : ℕ) → at begun id ≡ no_call
  none_yet id = λ i. record { slot = finite.get-empty nat_cmp id i; pieces = finite.get-empty nat_cmp id i }

  -- each entry is what its items leave
  joined : (events : List (Event V)) (k : Held R E) (items : List (Item Message V)) (id : ℕ) → Meets run.side begun events k
      → Carries run.telling run.unknown items (own_events id events)
      → entry_at k id ≡ run.entry_in (behind_all run.telling run.unknown items)
  joined events k items id met carries =
      items_leave (turn_at run.side run.rule) run.side.act_by run.telling (λ t call. entry_of call.slot ≡ run.entry_in t) is.leaves
      items run.unknown (at begun id) (at k id) (own_events id events) (none_stored id ∙ sym is.first) carries
      (each_follows run.side begun k events id met)

  -- where acts hold the items
  pub entries : (acts : List (Input V)) (left : Unread) (k : Held R E) (calls : ℕ → List (Item Message V)) → SideTakes run limits acts left k
      → ActsHold run limits acts calls → EntriesAre run calls k
  entries acts left k calls takes (events, left', are, carries) id =
      let met = takes_events run.side acts (nothing_unread limits.message) left begun k takes in
      joined met.0 k (calls id) id met.2
      (subst (λ events. Carries run.telling run.unknown (calls id) (own_events id events))
      (same_events acts (nothing_unread limits.message) left' left events met.0 are met.1) (carries id))

  held_entries : (inputs : List I) (answers : List (Answered E)) (left : Unread) (k : Held R E) (calls : ℕ → List (Item Message V))
      → SideHolds run limits inputs answers left k calls → EntriesAre run calls k
  held_entries inputs answers left k calls held =
      entries held.acts left k calls
      (taken_takes run.side (run.deed limits) (nothing_unread limits.message) left begun k inputs answers held.acts held.taken)
      held.holds

  -- and each id's answers are what its items say
  held_answers : (inputs : List I) (answers : List (Answered E)) (left : Unread) (k : Held R E) (calls : ℕ → List (Item Message V))
      → SideHolds run limits inputs answers left k calls → (id : ℕ)
      → own_answers run.sorting.named id inputs answers ≡ item_answers run.telling run.entry_in run.unknown (calls id)
  held_answers inputs answers left k calls held id =
      let met = taken_answers run.side (run.deed limits) run.sorting.named names_it inputs answers held.acts
      (nothing_unread limits.message) left begun k held.taken in
      let same = same_events held.acts (nothing_unread limits.message) held.holds.1 left held.holds.0 met.0 held.holds.2 met.1 in
      met.3 id
      ∙ items_answer (turn_at run.side run.rule) run.side.act_by run.telling run.entry_in is.leaves
      (calls id) run.unknown (at begun id) (at k id) (own_events id met.0) (none_stored id ∙ sym is.first)
      (subst (λ events. Carries run.telling run.unknown (calls id) (own_events id events)) same (held.holds.3 id))
      (each_follows run.side begun k met.0 id met.2)

  -- whatever a new end takes is held by some items
  pub some_held : (inputs : List I) (answers : List (Answered E)) (acts : List (Input V)) (left : Unread) (k : Held R E)
      → SideTakesAs run limits inputs answers acts left k
      → (calls : ℕ → List (Item Message V)) × SideHolds run limits inputs answers left k calls
  some_held inputs answers acts left k taken =
      let met = taken_answers run.side (run.deed limits) run.sorting.named names_it inputs answers acts
      (nothing_unread limits.message) left begun k taken in
      let owned = acts_owned run.side (run.deed limits) is.own (is.owns limits) inputs answers acts
      (nothing_unread limits.message) left begun k taken in
      let each = events_taken limits.message run.side.breaks is.own acts (nothing_unread limits.message) left met.0 met.1 refl owned
      (met_heard run.side begun k met.0 met.2) in
      let said = λ (id : ℕ). is.said limits (at begun id) (at k id) (own_events id met.0) (none_stored id)
      (own_each (IsTakenEvent limits.message run.side.breaks is.own) id met.0 each)
      (each_follows run.side begun k met.0 id met.2) in (
        λ id. (said id).0,
        record {
          acts = acts;
          taken = taken;
          holds = (met.0, left, met.1, λ id. (said id).1);
        },
      )

  -- what a table's steps come to stands by those of the latest call
  abbrev pub StandsByLatest : Type 0
  StandsByLatest = (acts : List (Happening V))
      → AllByRecursion IsOk (told_alone (mux.turn (run.side.next run.rule) (run.side.closed run.rule)) None acts)
      → all_steps (mux.turn (run.side.next run.rule) (run.side.closed run.rule)) None acts ≡ run.standing acts

  -- and each entry is what they come to
  pub held_stands : StandsByLatest → (inputs : List I) (answers : List (Answered E)) (left : Unread) (k : Held R E)
      (calls : ℕ → List (Item Message V)) (held : SideHolds run limits inputs answers left k calls) (id : ℕ)
      → Stands run id (calls id) held.holds.0 (entry_at k id)
  held_stands latest inputs answers left k calls held id =
      let met = taken_answers run.side (run.deed limits) run.sorting.named names_it inputs answers held.acts
      (nothing_unread limits.message) left begun k held.taken in
      let same = same_events held.acts (nothing_unread limits.message) held.holds.1 left held.holds.0 met.0 held.holds.2 met.1 in
      let follows = each_follows run.side begun k met.0 id met.2 in
      let own = subst (λ events. Follows (turn_at run.side run.rule) run.side.act_by (at begun id) (own_events id events) (at k id)) (sym same) follows in
      let found = follows_steps (run.side.next run.rule) (run.side.closed run.rule) run.side.gathering run.side.act_by
      (own_events id held.holds.0) no_call (at k id)
      (subst (λ call. Follows (turn_at run.side run.rule) run.side.act_by call (own_events id held.holds.0) (at k id)) (none_yet id) own) in
      record {
        as_said = joined met.0 k (calls id) id met.2
            (subst (λ events. Carries run.telling run.unknown (calls id) (own_events id events)) same (held.holds.3 id));
        by_steps = found.1;
        by_latest = found.1 ∙ latest (history_of run id held.holds.0) found.0;
      }

  -- what fits is refused nothing, and each call is as it is alone
  fitting : (inputs : List I) (answers : List (Answered E)) (t : EndState (Held R E)) (fits : Fits run limits inputs)
      → SideRuns run limits inputs answers t → NoneRefused answers × (t.fault ≡ None) × ((id : ℕ) → IsAsAlone fits answers t.calls id)
  fitting inputs answers t fits ran =
      let found = new_run_alone run.side limits.message (run.deed limits) run.sorting (is.feeds limits) (is.same_deed limits) (is.is_deed limits)
      is.feeds_none (is.once limits) run.rule limits t inputs answers fits.met fits.rest (λ q. (fits.alone q).answers) (λ q. (fits.alone q).end) refl
      fits.are fits.of_calls (is.free limits inputs answers t fits.within ran) (λ q. ((fits.alone q).runs, (fits.alone q).none_refused)) ran in
      (found.0, found.1, λ id. record { call = (found.2 id).0; returned = (found.2 id).1 })

  -- and as was said of it
  as_said : (inputs : List I) (answers : List (Answered E)) (t : EndState (Held R E)) (fits : Fits run limits inputs)
      (calls : ℕ → List (Item Message V)) → ((id : ℕ) → SaysAlone (fits.alone id) (calls id)) → SideRuns run limits inputs answers t
      → (id : ℕ) → IsAsSaid run calls inputs answers t.calls id
  as_said inputs answers t fits calls says ran id =
      let alone = fits.alone id in
      let given = given_alone run.sorting id fits.met in
      let as_alone = (fitting inputs answers t fits ran).2 id in
      record {
        entry =
            ap (λ call. entry_of call.slot) as_alone.call
            ∙ held_entries given alone.answers alone.end.unread alone.end.calls (only id (calls id)) (says id) id
            ∙ ap (λ items. run.entry_in (behind_all run.telling run.unknown items)) (only_own id (calls id));
        returned =
            as_alone.returned
            ∙ held_answers given alone.answers alone.end.unread alone.end.calls (only id (calls id)) (says id) id
            ∙ ap (item_answers run.telling run.entry_in run.unknown) (only_own id (calls id));
      }

  pub kept_apart : (inputs : List I) (answers : List (Answered E)) (t : EndState (Held R E)) → SideRuns run limits inputs answers t
      → KeepsCallsApart run limits inputs answers t
  kept_apart inputs answers t ran = record {
    taken = λ none sound. run_taken run.side (run.deed limits) (new_end run.rule limits) t inputs answers ran none sound;
    table = λ calls held. held_entries inputs answers t.unread t.calls calls held;
    returned = λ calls held. held_answers inputs answers t.unread t.calls calls held;
    free = λ within. is.free limits inputs answers t within ran;
    fits = λ fits. let found = fitting inputs answers t fits ran in (found.0, found.1);
    alone = λ fits. (fitting inputs answers t fits ran).2;
    said = λ fits calls says. as_said inputs answers t fits calls says ran;
  }

-- two new ends that take acts which hold the same items have the same entries, whatever their limits
pub same_entries : {R E V A F I T Message : Type 0} (run : RunOf R E V A F I T Message) → IsRun run → (limits limits' : Limits)
    (one other : List (Input V)) (calls : ℕ → List (Item Message V)) (k k' : Held R E) → SideTakesItems run limits one calls k
    → SideTakesItems run limits' other calls k' → SameEntries k k'
same_entries run is limits limits' one other calls k k' (takes, holds) (takes', holds') id =
    entries run is limits one takes.0 k calls takes.1 holds id
    ∙ sym (entries run is limits' other takes'.0 k' calls takes'.1 holds' id)
