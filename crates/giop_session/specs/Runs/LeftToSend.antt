-- As many messages of a call are still to be sent as its entry says (CORBA 3.3 Part 2, 9.4.9).
use Rattle.std.specs.Prelude.{◌≡◌, ℕ, List, [], ◌∷◌, length, Option}
use Rattle.giop_mux.specs.Runs.{Hears as IsTold, IsTaken as TakesOut}
use Rattle.giop_calls.specs.declared.client.event.ClientEvent.{ClientEvent}
use Rattle.giop_calls.specs.declared.client.event.ClientEvent.TheVariants as client
use Rattle.giop_calls.specs.declared.server.event.ServerEvent.{ServerEvent}
use Rattle.giop_calls.specs.declared.server.event.ServerEvent.TheVariants as server
use Rattle.giop_table.specs.declared.plan.Plan.{Plan}
use Rattle.giop_table.specs.declared.plan.Plan.TheVariants.{Put, Next}
use Rattle.giop_table.specs.declared.slot.Slot.{Slot}
use Rattle.giop_types.specs.declared.interfaces.interface.Interface.{Interface}
use Rattle.giop_calls.specs.declared.client.entry.ClientEntry.{ClientEntry}
use Rattle.giop_calls.specs.declared.client.rule.ClientRule.{ClientRule}
use Rattle.giop_calls.specs.declared.server.entry.ServerEntry.{ServerEntry}
use Rattle.giop_calls.specs.declared.server.rule.ServerRule.{ServerRule}
use Rattle.giop_end.specs.declared.limits.Limits.{Limits}
use Rattle.giop_end.specs.Ends.Begun.{no_calls}
use Rattle.giop_table.specs.CallTable.{Held}
use Rattle.giop_end.specs.Hearing.ClientHears.{client_side}
use Rattle.giop_end.specs.Hearing.ServerHears.{server_side}
use Rattle.giop_session.specs.Runs.Events.{Event, Comes, Does, Meets}
use Rattle.giop_table.specs.Sending.{entry_of, left_in, unsent_of}

-- what a server's own events do to the messages of their calls: a Reply is sent in as many as its
-- event says, a LocateReply in one, and a further piece is the next
abbrev pub ServerPlans : ServerEvent → Plan → Type 0
ServerPlans (server.Answer reply pieces) (Put messages) = length messages ≡ pieces
ServerPlans (server.AnswerLocate here) (Put messages) = length messages ≡ 1
ServerPlans server.Send Next = Unit {0}
ServerPlans event plan = ⊥

-- and a client's: a call is sent in as many as its event says, a CancelRequest is one, in place of
-- those that were left, and a further piece is the next
abbrev pub ClientPlans : ClientEvent → Plan → Type 0
ClientPlans (client.Call call pieces) (Put messages) = length messages ≡ pieces
ClientPlans client.Cancel (Put messages) = length messages ≡ 1
ClientPlans client.Send Next = Unit {0}
ClientPlans event plan = ⊥

-- the end's own acts among these events are planned so
abbrev pub ArePlanned : {V : Type 0} → (V → Plan → Type 0) → List (Event V) → Type 0
ArePlanned plans [] = Unit {0}
ArePlanned plans (Comes m ∷ events) = ArePlanned plans events
ArePlanned plans (Does id (IsTold planned) ∷ events) =
    plans planned.event planned.plan × ArePlanned plans events
ArePlanned plans (Does id TakesOut ∷ events) = ArePlanned plans events

-- so many are left
abbrev pub IsLeft : {E : Type 0} → (E → ℕ) → Option (Slot E) → Type 0
IsLeft left slot = left_in left (entry_of slot) ≡ length (unsent_of slot)

-- a new server's end meets these events, and refuses none of them
abbrev pub ServerMeets : Interface → Limits → List (Event ServerEvent)
    → Held ServerRule ServerEntry → Type 0
ServerMeets interface limits events k =
    Meets (server_side interface) (no_calls (record {}) limits) events k

-- and a new client's
abbrev pub ClientMeets : Interface → Limits → List (Event ClientEvent)
    → Held ClientRule ClientEntry → Type 0
ClientMeets interface limits events k =
    Meets (client_side interface) (no_calls (record {}) limits) events k
