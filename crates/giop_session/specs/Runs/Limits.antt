-- What is asked of the limits of an end, in whatever order it comes: ids to open calls under, and
-- octets to be gathered (CORBA 3.3 Part 2, 9.4.9).
use Rattle.std.specs.Prelude.{◌≡◌, ◌≢◌, ◌≤◌, ℕ, ◌==◌, ◌&&◌, ◌++◌, Bool, true, false, if◌then◌else◌, List, ◌∷◌, length, sum_by, Err}
use Rattle.std.specs.List.{list_any}
use Rattle.std.specs.List.Sorted.{IsPermutation}
use Rattle.giop_ids.specs.ById.{is_listed}
use Rattle.giop_ids.specs.Runs.{Does as DoesAct}
use Rattle.giop_mux.specs.Runs.{Hears as IsTold, IsTaken as TakesOut}
use Rattle.giop_msg.specs.declared.kind.Kind.{Kind}
use Rattle.giop_msg.specs.declared.kind.Kind.TheVariants as message
use Rattle.giop_msg.specs.declared.msg.Msg.{Msg}
use Rattle.giop_calls.specs.declared.client.event.ClientEvent.{ClientEvent}
use Rattle.giop_calls.specs.declared.client.event.ClientEvent.TheVariants as client
use Rattle.giop_calls.specs.declared.server.event.ServerEvent.{ServerEvent}
use Rattle.giop_calls.specs.declared.server.event.ServerEvent.TheVariants as server
use Rattle.giop_end.specs.declared.limits.Limits.{Limits}
use Rattle.giop_end.specs.declared.session_fault.SessionFault.{SessionFault}
use Rattle.giop_end.specs.declared.session_fault.SessionFault.TheVariants.{GatherFull, TooManyCalls}
use Rattle.giop_table.specs.declared.table_fault.TableFault.{TableFault}
use Rattle.giop_end.specs.Ends.Begun.{no_calls}
use Rattle.giop_session.specs.Runs.Alone.{names}
use Rattle.giop_table.specs.CallTable.{Held}
use Rattle.giop_session.specs.Runs.Events.{Event, Comes, Does, Meets, act_of}
use Rattle.giop_end.specs.Hearing.Heard.{behind_id, SideOf, rules_at, hears}
use Rattle.giop_end.specs.Ends.SessionFaults.{of_table}

-- how many octets a message of this kind brings to be gathered: a Fragment those behind its request
-- id, any other, where more is to come, all that it has
abbrev pub octets_by : Kind → Msg → ℕ
octets_by message.Fragment m = length (behind_id m)
octets_by kind m = if m.more then length m.payload else 0

abbrev pub octets_with : Msg → ℕ
octets_with m = octets_by m.kind m

-- and an event: an act of the end's own brings none
abbrev pub octets_of : {V : Type 0} → Event V → ℕ
octets_of (Comes m) = octets_with m
octets_of (Does id act) = 0

-- how many octets the message that comes has behind its header
abbrev pub payload_of : {V : Type 0} → Event V → ℕ
payload_of (Comes m) = length m.payload
payload_of (Does id act) = 0

-- whether a message of this kind asks a server for a call
abbrev pub is_asking : Kind → Bool
is_asking message.Request = true
is_asking message.LocateRequest = true
is_asking kind = false

-- whether a call may begin at a server by this: what asks for it comes, its first piece or all
abbrev pub begins_at_server : ServerEvent → Bool
begins_at_server (server.First kind) = true
begins_at_server (server.Whole call) = true
begins_at_server event = false

-- at a client: it calls, or locates
abbrev pub begins_at_client : ClientEvent → Bool
begins_at_client (client.Call call pieces) = true
begins_at_client event = false

-- whether an event may open a call under an id, where messages of such kinds do, and such acts
abbrev pub opens : {V : Type 0} → (Kind → Bool) → (V → Bool) → Event V → ℕ → Bool
opens asks begins (Comes m) id = asks m.kind && names m id
opens asks begins (Does named (IsTold planned)) id = begins planned.event && (id == named)
opens asks begins (Does named TakesOut) id = false

-- all of these open calls under at most n ids: such a list has each of them
pub record OpenAtMost {X : Type 0} (n : ℕ) (opened : X → ℕ → Bool) (all : List X) : Type 0 where
  pub ids : List ℕ
  pub few : length ids ≤ n
  pub listed : (id : ℕ) → list_any (λ one. opened one id) all ≡ true → is_listed ids id ≡ true

-- the ids under which these events open calls, and the octets that they bring, are within limits;
-- their order doesn't count
pub record AreWithin {V : Type 0} (asks : Kind → Bool) (begins : V → Bool) (limits : Limits)
    (events : List (Event V)) : Type 0 where
  pub calls : OpenAtMost limits.calls (opens asks begins) events
  pub octets : sum_by octets_of events ≤ limits.gathered

-- at a server, where Requests and LocateRequests open calls
abbrev pub AreWithinAtServer : Limits → List (Event ServerEvent) → Type 0
AreWithinAtServer = AreWithin is_asking begins_at_server

-- at a client, where no message does
abbrev pub AreWithinAtClient : Limits → List (Event ClientEvent) → Type 0
AreWithinAtClient = AreWithin (λ kind. false) begins_at_client

-- of all these events, in whatever order, some came, and this one is next
abbrev pub IsNext : {V : Type 0} → (all came : List (Event V)) → Event V → Type 0
IsNext {V} all came e = (rest : List (Event V)) × IsPermutation all (came ++ e ∷ rest)

module _ {R E V A F : Type 0} (side : SideOf R E V A F) where
  -- an end refuses an event for this
  abbrev pub Refuses : Event V → Held R E → SessionFault → Type 0
  Refuses (Comes m) h why = (k : Held R E)
      × hears side m h (Err why) k
  Refuses (Does id act) h why = (k : Held R E) × (fault : TableFault F)
      × DoesAct (rules_at side h.rule) h
      (record { id = id; what = act_of act }) (Err fault) k
      × (why ≡ of_table (side.of_rule id) fault)

  -- whichever of all these events a new end met, it refuses the next one for no limit
  abbrev pub MeetNoLimit : R → Limits → List (Event V) → Type 0
  MeetNoLimit rule limits all =
      (came : List (Event V)) (e : Event V) (h : Held R E) (why : SessionFault)
      → IsNext all came e → Meets side (no_calls rule limits) came h → Refuses e h why
      → (why ≢ TooManyCalls) × (why ≢ GatherFull)
