-- What is given to an end fits it: each call alone is refused nothing, and no limit is met. All of
-- this is said of the inputs, before any of them is taken; and what a run of such an end comes to.
use Rattle.std.specs.Prelude.{◌≡◌, ℕ, ◌==◌, if◌then◌else◌, List, [], Option, None}
use Rattle.std.specs.List.{AllByRecursion}
use Rattle.giop_ids.specs.Runs.{alone as all_steps}
use Rattle.giop_msg.specs.Stream.{Unread}
use Rattle.giop_mux.specs.Runs.{Happening, turn}
use Rattle.giop_session.specs.declared.laws.inputs.Answered.{Answered}
use Rattle.giop_end.specs.declared.limits.Limits.{Limits}
use Rattle.giop_table.specs.CallTable.{Held, at, entry_at}
use Rattle.giop_end.specs.Hearing.Heard.{turn_at}
use Rattle.giop_session.specs.Items.Carries.{Item, behind_all}
use Rattle.giop_session.specs.Runs.Driven.{NoneRefused, item_answers, own_answers}
use Rattle.giop_end.specs.Ends.Begun.{EndState}
use Rattle.giop_session.specs.Runs.Events.{Event, history, no_call, own_events}
use Rattle.giop_session.specs.Runs.Inputs.{Input}
use Rattle.giop_end.specs.Hearing.Feeding.{nothing_unread}
use Rattle.giop_session.specs.Runs.Met.{AreMet, IsOfCall, Met, given_alone}
use Rattle.giop_session.specs.Runs.RunLimits.{NoneForALimit}
use Rattle.giop_session.specs.Runs.SideRuns.{HasAnswers, HasEntries, RunOf, SideHolds, SideRuns, SideTakesAs}

-- of one id alone this is said
abbrev pub only : {X : Type 0} → ℕ → List X → ℕ → List X
only id said q = if q == id then said else []

module _ {R E V A F I T M : Type 0} (run : RunOf R E V A F I T M) (limits : Limits) where
  -- a new end that is given the messages and the acts of one call alone refuses none of them; it
  -- gives these answers, and is this then
  pub record IsFreeAlone (id : ℕ) (met : List (Met I)) : Type 0 where
    pub answers : List (Answered E)
    pub end : EndState (Held R E)
    pub runs : SideRuns run limits (given_alone run.sorting id met) answers end
    pub none_refused : NoneRefused answers

  -- what is given to an end fits it: it is these messages and acts, and a rest that waits for more
  -- octets; each names a call, so none closes the connection and none is a MessageError; no limit
  -- is met; and each call alone is refused nothing
  pub record Fits (inputs : List I) : Type 0 where
    pub met : List (Met I)
    pub rest : Unread
    pub are : AreMet run.sorting (nothing_unread limits.message) inputs met rest
    pub of_calls : AllByRecursion (IsOfCall run.sorting) met
    pub within : run.Within limits inputs
    pub alone : (id : ℕ) → IsFreeAlone id met

module _ {R E V A F I T M : Type 0} {run : RunOf R E V A F I T M} {limits : Limits} where
  -- what was said of a call is these items: the end that is given the call alone takes them
  abbrev pub SaysAlone : {id : ℕ} {met : List (Met I)} → IsFreeAlone run limits id met
      → List (Item M V) → Type 0
  SaysAlone {id} {met} alone said =
      SideHolds run limits (given_alone run.sorting id met) alone.answers alone.end.unread
      alone.end.calls (only id said)

  -- what an end holds of an id, and what it answered for it, is what the call alone comes to: its
  -- slot, with its entry and its unsent messages, and its pieces
  pub record IsAsAlone {inputs : List I} (fits : Fits run limits inputs)
      (answers : List (Answered E)) (k : Held R E) (id : ℕ) : Type 0 where
    pub call : at k id ≡ at (fits.alone id).end.calls id
    pub returned : own_answers run.sorting.named id inputs answers
        ≡ own_answers run.sorting.named id (given_alone run.sorting id fits.met)
        (fits.alone id).answers

module _ {R E V A F I T M : Type 0} (run : RunOf R E V A F I T M) where
  -- what an end holds of an id, and what it answered for it, is what was said of the call: whoever
  -- said it, in whichever messages, byte orders and reads, and whatever lay between
  pub record IsAsSaid (calls : ℕ → List (Item M V)) (inputs : List I)
      (answers : List (Answered E)) (k : Held R E) (id : ℕ) : Type 0 where
    pub entry : entry_at k id ≡ run.entry_in (behind_all run.telling run.unknown (calls id))
    pub returned : own_answers run.sorting.named id inputs answers
        ≡ item_answers run.telling run.entry_in run.unknown (calls id)

  -- what a table is told of the calls of an id: their own messages, each as it is read where it
  -- comes, and acts
  abbrev pub history_of : ℕ → List (Event V) → List (Happening V)
  history_of id events =
      history (turn_at run.side run.rule) run.side.act_by no_call (own_events id events)

  -- what is stored for an id is what was said of its calls; it is what the table's steps come to by
  -- their own messages and acts; and it is what stands by those of the latest call, without steps
  pub record Stands (id : ℕ) (said : List (Item M V)) (events : List (Event V))
      (entry : Option E) : Type 0 where
    pub as_said : entry ≡ run.entry_in (behind_all run.telling run.unknown said)
    pub by_steps : entry
        ≡ all_steps (turn (run.side.next run.rule) (run.side.closed run.rule)) None
        (history_of id events)
    pub by_latest : entry ≡ run.standing (history_of id events)

  -- so each entry does, of what is held
  abbrev pub EntriesStand : Limits → List I → List (Answered E) → Unread → Held R E
      → (ℕ → List (Item M V)) → Type 0
  EntriesStand limits inputs answers left k calls =
      (held : SideHolds run limits inputs answers left k calls) (id : ℕ)
      → Stands id (calls id) held.holds.0 (entry_at k id)

  -- what a run keeps apart, call by call, whatever it was given
  pub record KeepsCallsApart (limits : Limits) (inputs : List I) (answers : List (Answered E))
      (t : EndState (Held R E)) : Type 0 where
    -- where nothing is refused, and the end isn't closed, it took the inputs as such acts
    pub taken : NoneRefused answers → t.fault ≡ None → (acts : List (Input V))
        × SideTakesAs run limits inputs answers acts t.unread t.calls
    -- whatever items they hold, each id's entry and answers are what is said of it
    pub table : HasEntries run limits inputs answers t.unread t.calls
    pub returned : HasAnswers run limits inputs answers t.unread t.calls
    -- inputs within the limits are refused for none
    pub free : run.Within limits inputs → NoneForALimit answers
    -- inputs that fit are refused nothing
    pub fits : Fits run limits inputs → NoneRefused answers × (t.fault ≡ None)
    -- and each call is as it is alone
    pub alone : (fits : Fits run limits inputs) (id : ℕ) → IsAsAlone fits answers t.calls id
    -- and as was said of it alone
    pub said : (fits : Fits run limits inputs) (calls : ℕ → List (Item M V))
        → ((id : ℕ) → SaysAlone (fits.alone id) (calls id))
        → (id : ℕ) → IsAsSaid calls inputs answers t.calls id
