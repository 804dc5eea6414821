-- What is stored for a call that follows its own events is what its rule's steps come to by them.
use Rattle.std.proofs.Common.{◌≡◌, Bool, true, false, List, [], ◌∷◌, Option, Some, None, Result, Ok, Err, IsOk, refl, ap, subst, ◌∙◌}
use Rattle.std.specs.List.{AllByRecursion}
use Rattle.giop_frag.specs.Gathered.{Pieces}
use Rattle.giop_ids.specs.Runs.{alone, left, told, told_alone}
use Rattle.giop_msg.specs.declared.msg.Msg.{Msg}
use Rattle.giop_mux.specs.Runs.{Happening}
use Rattle.giop_mux.specs.Runs as mux
use Rattle.giop_mux.specs.declared.step.Step.{Step}
use Rattle.giop_table.specs.declared.plan.Plan.{Plan}
use Rattle.giop_table.specs.declared.slot.Slot.{Slot}
use Rattle.giop_table.specs.CallTable.{Act, Call, Hears, IsTaken, Turned, brought, taken, turn, turned}
use Rattle.giop_table.specs.Sending.{entry_of, sends_of, settled_by, slot_of, unsent_of}
use Rattle.giop_session.specs.Runs.Events.{Event, Follows, happening, history, what}

entry_is : {E : Type 0} (entry : Option E) (unsent : List Msg) → entry_of (slot_of entry unsent) ≡ entry
entry_is None unsent = refl
entry_is (Some entry) unsent = refl

module _ {E V A F : Type 0} (next : Option E → V → Step E A F) (closed gathering : E → Bool) where
  abbrev Does : Call E → Act V → Turned E A F
  Does = turn next closed gathering

  abbrev Steps : Option E → Happening V → mux.Turned E A F
  Steps = mux.turn next closed

  -- an accepted act is accepted by the rule, and leaves what that leaves
  abbrev IsStep : Call E → Act V → Type 0
  IsStep call act = IsOk (told (Steps (entry_of call.slot) (happening act)))
      × (entry_of (left call (Does call act)).slot ≡ left (entry_of call.slot) (Steps (entry_of call.slot) (happening act)))

  event_is : (pieces : Option Pieces) (call : Call E) (entry : Option E) (plan : Plan) (outcome : Result A F)
      → IsOk (turned gathering pieces (settled_by entry plan (unsent_of call.slot) outcome).entry (sends_of plan (unsent_of call.slot) outcome))
      → IsOk (told (mux.stepped next closed entry outcome))
      × (entry_of (left call (turned gathering pieces (settled_by entry plan (unsent_of call.slot) outcome).entry
      (sends_of plan (unsent_of call.slot) outcome))).slot
      ≡ left (entry_of call.slot) (mux.stepped next closed entry outcome))
  event_is pieces call entry plan (Ok answer) ok = (refl, entry_is entry _)
  event_is pieces call entry plan (Err fault) ok = absurd cc

  taken_is : (slot : Slot E) (pieces : Option Pieces) (over : Bool)
      → IsOk (taken {E = E} {A = A} {F = F} (Some over) (record { slot = Some slot; pieces = pieces }))
      → IsOk (told (mux.taken next closed (Some over) (Some slot.entry)))
      × (entry_of (left (record { slot = Some slot; pieces = pieces }) (taken {E = E} {A = A} {F = F} (Some over)
      (record { slot = Some slot; pieces = pieces }))).slot ≡ left (Some slot.entry) (mux.taken next closed (Some over) (Some slot.entry)))
  taken_is slot pieces true ok = (refl, refl)
  taken_is slot pieces false ok = absurd cc

  take_is : (slot : Option (Slot E)) (pieces : Option Pieces) → IsOk (Does (record { slot = slot; pieces = pieces }) IsTaken)
      → IsStep (record { slot = slot; pieces = pieces }) IsTaken
  take_is None pieces ok = (refl, refl)
  take_is (Some slot) pieces ok = taken_is slot pieces (closed slot.entry) ok

  step_is : (call : Call E) (act : Act V) → IsOk (Does call act) → IsStep call act
  step_is call (Hears planned brings) ok =
      event_is (brought brings call.pieces) call (next (entry_of call.slot) planned.event).entry planned.plan
      (next (entry_of call.slot) planned.event).outcome ok
  step_is call IsTaken ok = take_is call.slot call.pieces ok

  module _ (act_by : Msg → Call E → Act V) where
    -- so do all of them
    pub follows_steps : (events : List (Event V)) (call after : Call E) → Follows Does act_by call events after
        → AllByRecursion IsOk (told_alone Steps (entry_of call.slot) (history Does act_by call events))
        × (entry_of after.slot ≡ alone Steps (entry_of call.slot) (history Does act_by call events))
    follows_steps [] call after follows = (tt, ap (λ c. entry_of c.slot) follows)
    follows_steps (e ∷ events) call after (ok, follows) =
        let act = what Does act_by e call in
        let one = step_is call act ok in
        let behind = follows_steps events (left call (Does call act)) after follows in
        let rest = history Does act_by (left call (Does call act)) events in (
          (one.0, subst (λ entry. AllByRecursion IsOk (told_alone Steps entry rest)) one.1 behind.0),
          behind.1 ∙ ap (λ entry. alone Steps entry rest) one.1,
        )
