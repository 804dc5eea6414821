-- What an accepted act of an end's own leaves (CORBA 3.3 Part 2, 9.4).
use Rattle.std.specs.Prelude.{◌≡◌, ◌≢◌, ℕ, ◌++◌, List, Option, IsOk}
use Rattle.std.specs.FinMap as finite
use Rattle.giop_mux.specs.declared.step.Step.{Step}
use Rattle.giop_table.specs.declared.plan.Planned.{Planned}
use Rattle.giop_table.specs.CallTable.{Held}
use Rattle.giop_end.specs.Acts.Putting.{octets_of}
use Rattle.giop_table.specs.Sending.{entry_of, message_of, slot_of, unsent_after, unsent_of}

-- an event acted on the call of an id by the rule of these steps: it is accepted, and leaves the
-- entry of the step, and the messages that the plan leaves unsent; each other id has what it had; and the
-- message that the plan sends, if it sends one, is outgoing behind what was
pub record IsAccepted {R E V A F : Type 0} (next : Option E → V → Step E A F) (id : ℕ)
    (planned : Planned V) (h : Held R E) (out : List ℕ) (k : Held R E) (out' : List ℕ)
    : Type 0 where
  pub outcome : IsOk (next (entry_of (finite.get h.table id)) planned.event).outcome
  pub slot : finite.get k.table id
      ≡ slot_of (next (entry_of (finite.get h.table id)) planned.event).entry
      (unsent_after planned.plan (unsent_of (finite.get h.table id)))
  pub others : (other : ℕ) → other ≢ id → finite.get k.table other ≡ finite.get h.table other
  pub puts : out' ≡ out ++ octets_of (message_of planned.plan (unsent_of (finite.get h.table id)))
