-- What the calls of a client's end do to what its handle holds. Each says of the end that is held what
-- giop_session's own call says.
use Rattle.std.specs.Prelude.{◌≡◌, ◌⊎◌, ℕ, ◌≤◌, ◌<◌, ◌^◌, ◌++◌, List, Option, Some, None, Result, Ok, Err, drop, length, false}
use Rattle.std.specs.FinMap as finite
use Rattle.std.specs.Option.{option_map}
use Rattle.std_alloc.specs.Arc.{arc_value}
use Rattle.giop_cdr.specs.declared.order.Order.{Order}
use Rattle.giop_cdr.specs.declared.order.Order.TheVariants.{Big}
use Rattle.giop_ids.specs.ById.{put}
use Rattle.giop_msg.specs.Msg.{message_octets}
use Rattle.giop_calls.specs.declared.fault.CallFault.{CallFault}
use Rattle.giop_calls.specs.declared.client.event.ClientEvent.{ClientEvent}
use Rattle.giop_calls.specs.declared.client.event.ClientEvent.TheVariants as event
use Rattle.giop_calls.specs.ClientTable as client
use Rattle.giop_table.specs.declared.plan.Planned.{Planned}
use Rattle.giop_table.specs.declared.plan.Plan.TheVariants.{Next}
use Rattle.giop_end.specs.declared.limits.Limits.{Limits}
use Rattle.giop_end.specs.declared.session_fault.SessionFault.{SessionFault}
use Rattle.giop_end.specs.declared.session_fault.SessionFault.TheVariants.{Closed, NoMemory, StillOpen}
use Rattle.giop_end.specs.Acts.Putting.{Puts}
use Rattle.giop_end.specs.Acts.Sent.{close_connection}
use Rattle.giop_end.specs.Acts.ClientCalls.{IsCancel, cancel_fault, open_version}
use Rattle.giop_table.specs.CallTable.{rules_of, entry_at}
use Rattle.giop_end.specs.Hearing.Feeding.{Fed, standing, with_octets}
use Rattle.giop_end.specs.Hearing.Heard.{hears_by, in_call}
use Rattle.giop_end.specs.Hearing.ClientHears.{client_act, client_breaks}
use Rattle.giop_end.specs.Ends.Begun.{end_state, new_end}
use Rattle.giop_c.specs.declared.client.caller.Caller.{Caller}
use Rattle.giop_c.specs.declared.shared.Shared.{Shared}
use Rattle.giop_c.specs.declared.end_records.EndLimits.{EndLimits}
use Rattle.giop_c.specs.Acts.{limits_of}
use Rattle.giop_c.specs.Calls.{ok, closed, no_memory, fault, small}

-- a failed end answers its fault, and stays
abbrev pub Fails : Caller → Result (Unit {0}) SessionFault → Caller → Type 0
Fails old answer new =
    (why : SessionFault) → old.end.fault ≡ Some why → (answer ≡ Err why) × (new ≡ old)

-- what a client's end is that hears nothing yet, by this interface and within these limits
abbrev pub IsNewClient : Shared → Limits → Caller → Type 0
IsNewClient shared limits new =
    (arc_value new.interface ≡ arc_value shared.interface)
    × (end_state new.end.framer new.end.calls new.end.outgoing new.end.fault
    ≡ new_end (record {}) limits)
    × (new.end.limits ≡ limits)

-- a handle is opened, by the interface that another holds, whatever it held; or the limit of gathered
-- octets is refused, or memory ran out, or there is no interface, and it is as it was
abbrev pub OpensClient : Option Shared → EndLimits → Option Caller → Option Caller → ℕ → Type 0
OpensClient None limits old new status = (status ≡ closed) × (new ≡ old)
OpensClient (Some shared) limits old new status =
    ((status ≡ ok)
    × (caller : Caller) × (new ≡ Some caller) × IsNewClient shared (limits_of limits) caller)
    ⊎ (((status ≡ no_memory) ⊎ ((status ≡ fault) × (2 ^ 62 < limits.gathered))) × (new ≡ old))

-- octets of the server are fed
abbrev pub FeedsClient : List ℕ → Caller → Result (Unit {0}) SessionFault → Caller → Type 0
FeedsClient octets old answer new =
    Fails old answer new
    × (old.end.fault ≡ None
    → Fed (hears_by (λ rule. client.client_step) (λ rule. client.is_closed) client.is_gathering
    in_call client_breaks (client_act (arc_value old.interface)))
    (with_octets old.end.framer octets) old.end.calls answer new.end.framer new.end.calls)
    × (old.end.fault ≡ None → new.end.fault ≡ standing answer)
    × (new ≡ record old {
      end = record old.end {
        framer = new.end.framer;
        calls = new.end.calls;
        fault = new.end.fault;
      };
    })

-- something is done to the call of an id: that is refused for this, or else an event that is planned
-- so acts on the call, and what it sends is put out
abbrev pub PutsAtClient : ℕ → Option CallFault → (Planned ClientEvent → Type 0) → Caller
    → Result (Unit {0}) SessionFault → Caller → Type 0
PutsAtClient id refusal Plans old answer new =
    Fails old answer new
    × (old.end.fault ≡ None
    → Puts (rules_of client.client_step client.is_closed client.is_gathering) in_call id refusal
    Plans old.end.calls old.end.outgoing answer new.end.calls new.end.outgoing)
    × (new ≡ record old {
      end = record old.end {
        calls = new.end.calls;
        outgoing = new.end.outgoing;
      };
    })

-- the next piece of a call is put out
abbrev pub SendsAtClient : ℕ → Caller → Result (Unit {0}) SessionFault → Caller → Type 0
SendsAtClient id =
    PutsAtClient id None (λ planned. planned ≡ record { event = event.Send; plan = Next })

-- the call of an id is cancelled (9.4.4)
abbrev pub CancelsAtClient : ℕ → Order → Caller → Result (Unit {0}) SessionFault → Caller → Type 0
CancelsAtClient id order old =
    PutsAtClient id (cancel_fault (open_version (entry_at old.end.calls id)))
    (IsCancel id order (open_version (entry_at old.end.calls id))) old

-- the connection is closed: a CloseConnection is put out, and the end answers Closed from then on
abbrev pub ClosesClient : Caller → Result (Unit {0}) SessionFault → Caller → Type 0
ClosesClient old (Ok done) new = (old.end.fault ≡ None) × (new ≡ record old {
  end = record old.end {
    outgoing = old.end.outgoing ++ message_octets (close_connection Big);
    fault = Some Closed;
  };
})
ClosesClient old (Err why) new =
    ((old.end.fault ≡ Some why) ⊎ ((old.end.fault ≡ None) × (why ≡ NoMemory))) × (new ≡ old)

-- what is stored for an id is taken out and dropped, unless its call is open
abbrev pub TakesAtClient : ℕ → Caller → Result (Unit {0}) SessionFault → Caller → Type 0
TakesAtClient id old (Ok done) new =
    (old.end.fault ≡ None) × (new ≡ record old {
      end = record old.end {
        calls = record old.end.calls { table = put old.end.calls.table id None };
      };
    })
TakesAtClient id old (Err why) new =
    ((old.end.fault ≡ Some why) ⊎ ((old.end.fault ≡ None) × (why ≡ StillOpen)
    × (option_map (λ slot. client.is_closed slot.entry) (finite.get old.end.calls.table id)
    ≡ Some false))) × (new ≡ old)

-- so many of the outgoing octets are written, and are outgoing no longer; or fewer are outgoing
abbrev pub WritesAtClient : ℕ → Caller → Caller → ℕ → Type 0
WritesAtClient n old new status =
    ((status ≡ ok) × (n ≤ length old.end.outgoing)
    × (new ≡ record old { end = record old.end { outgoing = drop n old.end.outgoing } }))
    ⊎ ((status ≡ small) × (length old.end.outgoing < n) × (new ≡ old))
