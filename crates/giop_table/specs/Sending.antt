-- A call's entry and its messages that are still to be sent, in one slot: one event changes both.
use Rattle.std.specs.Prelude.{◌≡◌, ℕ, List, [], Option, Some, None, Result, Ok, Err, IsErr, drop, refl}
use Rattle.std.specs.FinMap as finite
use Rattle.giop_ids.specs.ById.{ById}
use Rattle.giop_mux.specs.Faults.{no_fault}
use Rattle.giop_mux.specs.declared.step.Step.{Step}
use Rattle.giop_msg.specs.declared.msg.Msg.{Msg}
use Rattle.giop_table.specs.Unsent.{first_of}
use Rattle.giop_table.specs.declared.slot.Slot.{Slot}
use Rattle.giop_table.specs.declared.plan.Plan.{Plan}
use Rattle.giop_table.specs.declared.plan.Plan.TheVariants.{Put, Next, Leave}
use Rattle.giop_table.specs.declared.plan.Planned.{Planned}

-- the entry in a slot, if there is one
abbrev pub entry_of : {E : Type 0} → Option (Slot E) → Option E
entry_of None = None
entry_of (Some slot) = Some slot.entry

-- the messages in a slot; none where there is no slot
abbrev pub unsent_of : {E : Type 0} → Option (Slot E) → List Msg
unsent_of None = []
unsent_of (Some slot) = slot.unsent

-- how many messages of a call its entry says to be left
abbrev pub left_in : {E : Type 0} → (E → ℕ) → Option E → ℕ
left_in left None = 0
left_in left (Some entry) = left entry

-- what an accepted event leaves to be sent
abbrev pub unsent_after : Plan → List Msg → List Msg
unsent_after (Put messages) unsent = drop 1 messages
unsent_after Next unsent = drop 1 unsent
unsent_after Leave unsent = unsent

-- what an event leaves to be sent: a refused one all of it
abbrev pub unsent_by : {A F : Type 0} → Plan → List Msg → Result A F → List Msg
unsent_by plan unsent (Ok answer) = unsent_after plan unsent
unsent_by plan unsent (Err fault) = unsent

-- the message that an accepted event puts out
abbrev pub message_of : Plan → List Msg → Option Msg
message_of (Put messages) unsent = first_of messages
message_of Next unsent = first_of unsent
message_of Leave unsent = None

-- what an accepted event comes to: what its rule answers, and the message that it puts out
pub record Sends (A : Type 0) : Type 0 where
  pub answer : A
  pub message : Option Msg

-- what an event comes to, by what its rule answers
abbrev pub sends_of : {A F : Type 0} → Plan → List Msg → Result A F → Result (Sends A) F
sends_of plan unsent (Ok answer) =
    Ok (record { answer = answer; message = message_of plan unsent })
sends_of plan unsent (Err fault) = Err fault

-- the slot of an entry, if there is one; messages without an entry are dropped
abbrev pub slot_of : {E : Type 0} → Option E → List Msg → Option (Slot E)
slot_of None unsent = None
slot_of (Some entry) unsent = Some (record { entry = entry; unsent = unsent })

-- a step of the entry, with what it leaves to be sent beside it
abbrev pub settled_by : {E A F : Type 0} → Option E → Plan → List Msg → Result A F
    → Step (Slot E) A F
settled_by entry plan unsent outcome = record {
  entry = slot_of entry (unsent_by plan unsent outcome);
  outcome = outcome;
}

-- what an event does to a slot, where the rule of its entry does this
abbrev pub sending_step : {E V A F : Type 0} → (Option E → V → Step E A F)
    → Option (Slot E) → Planned V → Step (Slot E) A F
sending_step next slot planned =
    settled_by (next (entry_of slot) planned.event).entry planned.plan (unsent_of slot)
    (next (entry_of slot) planned.event).outcome

-- and what it does to the slot of an id, where these are stored
abbrev pub step_at : {E V A F : Type 0} → (Option E → V → Step E A F)
    → ById (Slot E) → ℕ → Planned V → Step (Slot E) A F
step_at next slots id planned = sending_step next (finite.get slots id) planned

-- a slot is its entry and its messages
slot_is : {E : Type 0} (slot : Option (Slot E)) → slot_of (entry_of slot) (unsent_of slot) ≡ slot
slot_is None = refl
slot_is (Some slot) = refl

-- a refused event leaves the slot
pub keeps_by : {E A F : Type 0} (slot : Option (Slot E)) (plan : Plan) (entry : Option E)
    (outcome : Result A F) → (IsErr outcome → entry ≡ entry_of slot)
    → IsErr (settled_by entry plan (unsent_of slot) outcome).outcome
    → (settled_by entry plan (unsent_of slot) outcome).entry ≡ slot
keeps_by slot plan entry (Ok answer) kept fault = no_fault fault
keeps_by slot plan entry (Err why) kept fault = rw (kept fault) (slot_is slot)
