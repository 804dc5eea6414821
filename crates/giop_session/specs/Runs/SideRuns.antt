-- What an end is given in a run, what it answers to each input, and which items are held by it: of
-- either side, by the record of what is a run of that side.
use Rattle.std.specs.Prelude.{◌≡◌, ℕ, List, Option}
use Rattle.giop_msg.specs.Stream.{Unread}
use Rattle.giop_mux.specs.Runs.{Happening}
use Rattle.giop_session.specs.declared.laws.inputs.Answered.{Answered}
use Rattle.giop_end.specs.declared.limits.Limits.{Limits}
use Rattle.giop_end.specs.Ends.Begun.{no_calls, EndState, new_end}
use Rattle.giop_table.specs.CallTable.{Held, entry_at}
use Rattle.giop_end.specs.Hearing.Heard.{SideOf}
use Rattle.giop_session.specs.Items.Carries.{Item, Telling, behind_all}
use Rattle.giop_session.specs.Runs.Driven.{Deed, EndRuns, IsGiven, TakesAs, item_answers, own_answers}
use Rattle.giop_session.specs.Runs.Inputs.{Holds, Input, Takes}
use Rattle.giop_end.specs.Hearing.Feeding.{nothing_unread}
use Rattle.giop_session.specs.Runs.Met.{Sorting}

-- what is a run of a side: what its inputs are to an end, and what is said of its calls there
pub record RunOf (R E V A F I T Message : Type 0) : Type 1 where
  pub side : SideOf R E V A F
  -- the rule of a new end
  pub rule : R
  -- what an input is to an end of these limits with these calls
  pub deed : Limits → Held R E → I → Deed V F
  -- how inputs are told apart
  pub sorting : Sorting I
  -- inputs are within these limits, in whatever order they come
  pub Within : Limits → List I → Type 0
  -- how what is met says what becomes of calls, what is known of one at first, and the entry in it
  pub telling : Telling T Message V
  pub unknown : T
  pub entry_in : T → Option E
  -- what stands by the latest call among what its table is told, without steps
  pub standing : List (Happening V) → Option E

module _ {R E V A F I T Message : Type 0} (run : RunOf R E V A F I T Message) where
  -- the entry of each id is what its items leave
  abbrev pub EntriesAre : (ℕ → List (Item Message V)) → Held R E → Type 0
  EntriesAre calls k = (id : ℕ)
      → entry_at k id ≡ run.entry_in (behind_all run.telling run.unknown (calls id))

  module _ (limits : Limits) where
    -- an end of the side is given an input
    abbrev pub SideIsGiven : EndState (Held R E) → I → Answered E → EndState (Held R E) → Type 0
    SideIsGiven s given answered t = IsGiven run.side (run.deed limits s.calls given) s answered t

    -- it is given these in turn
    abbrev pub SideRunsFrom : EndState (Held R E) → List I → List (Answered E) → EndState (Held R E)
        → Type 0
    SideRunsFrom = EndRuns run.side (run.deed limits)

    -- a new one is
    abbrev pub SideRuns : List I → List (Answered E) → EndState (Held R E) → Type 0
    SideRuns = SideRunsFrom (new_end run.rule limits)

    -- a new one takes these as such acts, and refuses none
    abbrev pub SideTakesAs : List I → List (Answered E) → List (Input V) → Unread → Held R E
        → Type 0
    SideTakesAs = TakesAs run.side (run.deed limits) (nothing_unread limits.message)
        (no_calls run.rule limits)

    -- acts of a new one hold these items for each id
    abbrev pub ActsHold : List (Input V) → (ℕ → List (Item Message V)) → Type 0
    ActsHold = Holds run.telling run.unknown limits.message

    -- it takes the inputs, and they hold these items for each id
    pub record SideHolds (inputs : List I) (answers : List (Answered E)) (left : Unread)
        (k : Held R E) (calls : ℕ → List (Item Message V)) : Type 0 where
      pub acts : List (Input V)
      pub taken : SideTakesAs inputs answers acts left k
      pub holds : ActsHold acts calls

    -- and they hold some items for each id
    abbrev pub SideHoldsSome : List I → List (Answered E) → Unread → Held R E → Type 0
    SideHoldsSome inputs answers left k =
        (calls : ℕ → List (Item Message V)) × SideHolds inputs answers left k calls

    -- whatever items they hold, the entry of each id is what is said of it
    abbrev pub HasEntries : List I → List (Answered E) → Unread → Held R E → Type 0
    HasEntries inputs answers left k = (calls : ℕ → List (Item Message V))
        → SideHolds inputs answers left k calls → EntriesAre calls k

    -- and so are its answers
    abbrev pub HasAnswers : List I → List (Answered E) → Unread → Held R E → Type 0
    HasAnswers inputs answers left k = (calls : ℕ → List (Item Message V))
        → SideHolds inputs answers left k calls → (id : ℕ)
        → own_answers run.sorting.named id inputs answers
        ≡ item_answers run.telling run.entry_in run.unknown (calls id)

    -- a new one takes such acts by whatever it does so, refuses none, and leaves this unread
    abbrev pub SideTakes : List (Input V) → Unread → Held R E → Type 0
    SideTakes = Takes run.side (nothing_unread limits.message) (no_calls run.rule limits)

    -- and they hold these items for each id
    abbrev pub SideTakesItems : List (Input V) → (ℕ → List (Item Message V)) → Held R E → Type 0
    SideTakesItems acts calls k =
        ((left : Unread) × SideTakes acts left k) × ActsHold acts calls

-- two ends have the same entry of each id
abbrev pub SameEntries : {R E : Type 0} → Held R E → Held R E → Type 0
SameEntries h k = (id : ℕ) → entry_at h id ≡ entry_at k id
