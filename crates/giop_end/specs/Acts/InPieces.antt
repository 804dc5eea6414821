-- How an end sends the further pieces of a call or of an answer (CORBA 3.3 Part 2, 9.4.9): the next
-- one of an id at a time, where one is left.
use Rattle.std.specs.Prelude.{◌≡◌, ℕ, ◌-◌, ◌==◌, Bool, true, false, if◌then◌else◌, List, Option, Some, None, Result, Err, is_ok, refl}
use Rattle.giop_mux.specs.declared.step.Step.{Step}
use Rattle.giop_calls.specs.declared.fault.CallFault.{CallFault}
use Rattle.giop_calls.specs.declared.fault.CallFault.TheVariants.{NothingToSend}
use Rattle.giop_calls.specs.declared.client.call.Call.{Call}
use Rattle.giop_calls.specs.declared.client.call.Call.TheVariants as asked
use Rattle.giop_calls.specs.declared.client.entry.ClientEntry.{ClientEntry}
use Rattle.giop_calls.specs.declared.client.entry.ClientEntry.TheVariants as client
use Rattle.giop_calls.specs.declared.client.event.ClientEvent.TheVariants as client_event
use Rattle.giop_calls.specs.declared.server.entry.ServerEntry.{ServerEntry}
use Rattle.giop_calls.specs.declared.server.entry.ServerEntry.TheVariants as server
use Rattle.giop_calls.specs.declared.server.event.ServerEvent.TheVariants as server_event
use Rattle.giop_calls.specs.Messages.{is_oneway}
use Rattle.giop_calls.specs.ClientTable as client_table
use Rattle.giop_calls.specs.ServerTable as server_table
use Rattle.giop_table.specs.declared.plan.Plan.TheVariants.{Next}
use Rattle.giop_table.specs.CallTable.{Held, RuleOf, rules_by}
use Rattle.giop_end.specs.declared.session_fault.SessionFault.{SessionFault}
use Rattle.giop_end.specs.Acts.Putting.{Puts}
use Rattle.giop_end.specs.Hearing.Heard.{in_call}
use Rattle.giop_end.specs.Hearing.Pieces.{gathers_in}

-- by this event of its rule an end sends the next piece of an id
abbrev pub PutsNext : {R E V A : Type 0} → RuleOf R E V A CallFault → V → ℕ → Held R E → List ℕ
    → Result (Unit {0}) SessionFault → Held R E → List ℕ → Type 0
PutsNext of send id h =
    Puts (rules_by of h.rule) in_call id None
    (λ planned. planned ≡ record { event = send; plan = Next }) h

-- a rule accepts this event where a piece is left: else it refuses the event for that alone, an id
-- without an entry among them. The event begins to gather nothing
pub record SendsBy {E V A : Type 0} (next : Option E → V → Step E A CallFault)
    (gathering : E → Bool) (send : V) : Type 0 where
  pub nothing : (entry : Option E) → is_ok (next entry send).outcome ≡ false
      → (next entry send).outcome ≡ Err NothingToSend
  pub away : is_ok (next None send).outcome ≡ false
  pub quiet : (entry : Option E) → gathers_in gathering entry ≡ false
      → gathers_in gathering (next entry send).entry ≡ false

-- ---- a client

client_nothing : (entry : Option ClientEntry)
    → is_ok (client_table.client_step entry client_event.Send).outcome ≡ false
    → (client_table.client_step entry client_event.Send).outcome ≡ Err NothingToSend
client_nothing None is = refl
client_nothing (Some (client.Sending call left)) is = absurd cc
client_nothing (Some (client.Waiting call)) is = refl
client_nothing (Some (client.Gathering call)) is = refl
client_nothing (Some (client.Done request reply)) is = refl
client_nothing (Some (client.LocateDone request reply)) is = refl
client_nothing (Some (client.Undecoded call fault)) is = refl
client_nothing (Some (client.OnewaySent request)) is = refl
client_nothing (Some (client.Cancelled late)) is = refl

sent_idle : (call : Call) → client_table.is_gathering (client_table.sent call) ≡ false
sent_idle (asked.Locate q) = refl
sent_idle (asked.Request q) = by_oneway (is_oneway q)
  where
    by_oneway : (b : Bool) → client_table.is_gathering
        (if b then client.OnewaySent q else client.Waiting (asked.Request q)) ≡ false
    by_oneway true = refl
    by_oneway false = refl

-- what stands for a call that is sent gathers nothing
pub sending_idle : (call : Call) (left : ℕ)
    → client_table.is_gathering (client_table.sending call left) ≡ false
sending_idle call left = by_left (left == 0)
  where
    by_left : (b : Bool) → client_table.is_gathering
        (if b then client_table.sent call else client.Sending call left) ≡ false
    by_left true = sent_idle call
    by_left false = refl

client_quiet : (entry : Option ClientEntry)
    → gathers_in client_table.is_gathering entry ≡ false
    → gathers_in client_table.is_gathering (client_table.client_step entry client_event.Send).entry
    ≡ false
client_quiet None idle = idle
client_quiet (Some (client.Sending call left)) idle = sending_idle call (left - 1)
client_quiet (Some (client.Waiting call)) idle = idle
client_quiet (Some (client.Gathering call)) idle = idle
client_quiet (Some (client.Done request reply)) idle = idle
client_quiet (Some (client.LocateDone request reply)) idle = idle
client_quiet (Some (client.Undecoded call fault)) idle = idle
client_quiet (Some (client.OnewaySent request)) idle = idle
client_quiet (Some (client.Cancelled late)) idle = idle

pub client_sends : SendsBy client_table.client_step client_table.is_gathering client_event.Send
client_sends = record { nothing = client_nothing; away = refl; quiet = client_quiet }

-- ---- a server

-- the step of an entry of which so many pieces are left
abbrev ServerStep : Type 0
ServerStep = Step ServerEntry (Unit {0}) CallFault

abbrev step_by_left : (before after : ServerEntry) → Bool → ServerStep
step_by_left before after none =
    if none then server_table.refused (Some before) NothingToSend else server_table.becomes after

refused_by_left : (before after : ServerEntry) (none : Bool)
    → is_ok (step_by_left before after none).outcome ≡ false
    → (step_by_left before after none).outcome ≡ Err NothingToSend
refused_by_left before after true is = refl
refused_by_left before after false is = absurd cc

server_nothing : (entry : Option ServerEntry)
    → is_ok (server_table.server_step entry server_event.Send).outcome ≡ false
    → (server_table.server_step entry server_event.Send).outcome ≡ Err NothingToSend
server_nothing None is = refl
server_nothing (Some (server.Gathering kind)) is = refl
server_nothing (Some (server.Asked request)) is = refl
server_nothing (Some (server.Undecoded call)) is = refl
server_nothing (Some (server.LocateAsked request)) is = refl
server_nothing (Some (server.LocateAnswered target here)) is = refl
server_nothing (Some (server.Delivered request)) is = refl
server_nothing (Some (server.Answered asked reply left)) is = refused_by_left _ _ (left == 0) is
server_nothing (Some (server.Cancelled answered left)) is = refused_by_left _ _ (left == 0) is

idle_by_left : (before after : ServerEntry) (none : Bool)
    → server_table.is_gathering before ≡ false → server_table.is_gathering after ≡ false
    → gathers_in server_table.is_gathering (step_by_left before after none).entry ≡ false
idle_by_left before after true was is = was
idle_by_left before after false was is = is

server_quiet : (entry : Option ServerEntry)
    → gathers_in server_table.is_gathering entry ≡ false
    → gathers_in server_table.is_gathering (server_table.server_step entry server_event.Send).entry
    ≡ false
server_quiet None idle = idle
server_quiet (Some (server.Gathering kind)) idle = idle
server_quiet (Some (server.Asked request)) idle = idle
server_quiet (Some (server.Undecoded call)) idle = idle
server_quiet (Some (server.LocateAsked request)) idle = idle
server_quiet (Some (server.LocateAnswered target here)) idle = idle
server_quiet (Some (server.Delivered request)) idle = idle
server_quiet (Some (server.Answered asked reply left)) idle =
    idle_by_left _ (server.Answered asked reply (left - 1)) (left == 0) refl refl
server_quiet (Some (server.Cancelled answered left)) idle =
    idle_by_left _ (server.Cancelled answered (left - 1)) (left == 0) refl refl

pub server_sends : SendsBy server_table.server_step server_table.is_gathering server_event.Send
server_sends = record { nothing = server_nothing; away = refl; quiet = server_quiet }
