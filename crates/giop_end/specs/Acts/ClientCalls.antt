-- What a client's own program calls, asks for and cancels (CORBA 3.3 Part 2, 9.4.2, 9.4.4, 9.4.5).
use Rattle.std.specs.Prelude.{◌≡◌, ℕ, ◌<◌, ◌^◌, ◌&&◌, Bool, not, if◌then◌else◌, List, length, Option, Some, None, is_none, Result}
use Rattle.std.specs.Option.{option_or}
use Rattle.giop_cdr.specs.Ending.{ended}
use Rattle.giop_cdr.specs.declared.order.Order.{Order}
use Rattle.giop_types.specs.declared.interfaces.interface.Interface.{Interface}
use Rattle.giop_msg.specs.declared.kind.Kind.TheVariants as message
use Rattle.giop_msg.specs.declared.messages.request.Request.{Request}
use Rattle.giop_msg.specs.declared.version.Version.{Version}
use Rattle.giop_msg.specs.Locate.{AnyLocateRequest, locate_request}
use Rattle.giop_msg.specs.Messages.Outcome.{joined_into}
use Rattle.giop_msg.specs.Messages.Request.{operation_asked, request}
use Rattle.giop_calls.specs.declared.client.call.Call.{Call}
use Rattle.giop_calls.specs.declared.client.call.Call.TheVariants as asked
use Rattle.giop_calls.specs.declared.client.entry.ClientEntry.{ClientEntry}
use Rattle.giop_calls.specs.declared.client.entry.ClientEntry.TheVariants.{Gathering, Sending, Waiting}
use Rattle.giop_calls.specs.declared.client.event.ClientEvent.{ClientEvent}
use Rattle.giop_calls.specs.declared.client.event.ClientEvent.TheVariants as event
use Rattle.giop_calls.specs.declared.fault.CallFault.{CallFault}
use Rattle.giop_calls.specs.declared.fault.CallFault.TheVariants.{IdInUse, NotOpen, UnknownOperation}
use Rattle.giop_calls.specs.declared.client.rule.ClientRule.{ClientRule}
use Rattle.giop_calls.specs.ClientTable.{client_step, is_closed, is_free, is_gathering}
use Rattle.giop_end.specs.declared.acts.form.Form.{Form}
use Rattle.giop_end.specs.declared.limits.Limits.{Limits}
use Rattle.giop_table.specs.declared.plan.Planned.{Planned}
use Rattle.giop_end.specs.declared.session_fault.SessionFault.{SessionFault}
use Rattle.giop_end.specs.Acts.Form.{is_sendable}
use Rattle.giop_end.specs.Acts.Putting.{Puts}
use Rattle.giop_table.specs.CallTable.{Held, entry_at, rules_of}
use Rattle.giop_end.specs.Hearing.Heard.{in_call}
use Rattle.giop_end.specs.Acts.Refused.{unfit_unless}
use Rattle.giop_end.specs.Acts.Sent.{IsValueSent, cancel_request, sends_one}

-- the joined octets of a Request
abbrev pub request_octets : Interface → Request → Order → List ℕ
request_octets interface q order =
    ((request interface q.head.version).written q (joined_into order)).octets

-- and of a LocateRequest
abbrev pub locate_octets : AnyLocateRequest → Order → List ℕ
locate_octets q order = ((locate_request q.version).written q (joined_into order)).octets

-- whether octets spell a Request, and the limits of the end let them
abbrev pub is_request_sendable : Interface → Limits → Request → Form → Bool
is_request_sendable interface limits q form =
    (request interface q.head.version).fits q
    && is_sendable limits.gathered limits.message q.head.version
    (length (request_octets interface q form.order)) form.piece

-- a LocateRequest likewise
abbrev pub is_locate_sendable : Limits → AnyLocateRequest → Form → Bool
is_locate_sendable limits q form =
    (locate_request q.version).fits q
    && is_sendable limits.gathered limits.message q.version
    (length (locate_octets q form.order)) form.piece

-- why no call of an operation begins under an id, where something says so: the id is in use, or the
-- interface hasn't the operation
abbrev pub begin_fault : Interface → Option ClientEntry → Request → Option CallFault
begin_fault interface entry q =
    if not (is_free entry) then Some IdInUse
    else if is_none (operation_asked interface q.head) then Some UnknownOperation
    else None

-- why a call is refused, if it is, but for a table that is full
abbrev pub call_fault : Interface → Limits → Option ClientEntry → Request → Form → Option CallFault
call_fault interface limits entry q form =
    option_or (begin_fault interface entry q)
    (unfit_unless (is_request_sendable interface limits q form))

-- a Request is sent, and its numbers are in range
abbrev pub IsCall : Interface → Request → Form → Planned ClientEvent → Type 0
IsCall interface q form = IsValueSent (request interface q.head.version) q q.head.version
    message.Request form (request_octets interface q form.order) (event.Call (asked.Request q))

-- why a LocateRequest is refused
abbrev pub locate_fault : Limits → Option ClientEntry → AnyLocateRequest → Form → Option CallFault
locate_fault limits entry q form =
    option_or (if is_free entry then None else Some IdInUse)
    (unfit_unless (is_locate_sendable limits q form))

-- it is sent, and its numbers are in range
abbrev pub IsLocate : AnyLocateRequest → Form → Planned ClientEvent → Type 0
IsLocate q form = IsValueSent (ended (locate_request q.version)) q q.version
    message.LocateRequest form (locate_octets q form.order) (event.Call (asked.Locate q))

-- the version of a call
abbrev pub version_of : Call → Version
version_of (asked.Request q) = q.head.version
version_of (asked.Locate q) = q.version

-- the version of a call, where it may be cancelled: before all of its reply came
abbrev pub open_in : ClientEntry → Option Version
open_in (Sending call left) = Some (version_of call)
open_in (Waiting call) = Some (version_of call)
open_in (Gathering call) = Some (version_of call)
open_in _ = None

-- of the call that is stored for an id
abbrev pub open_version : Option ClientEntry → Option Version
open_version None = None
open_version (Some entry) = open_in entry

-- why a cancel is refused: there is no call to cancel
abbrev pub cancel_fault : Option Version → Option CallFault
cancel_fault None = Some NotOpen
cancel_fault (Some version) = None

-- a CancelRequest is sent in the version of its call, and no further piece of the call; the id is
-- in range
abbrev pub IsCancel : ℕ → Order → Option Version → Planned ClientEvent → Type 0
IsCancel id order None planned = ⊥
IsCancel id order (Some version) planned =
    (id < 2 ^ 32) × (planned ≡ sends_one event.Cancel (cancel_request version order id))

-- a client's own program does something to the call of an id: it is refused for this, or else an
-- event that is planned so acts on the call
abbrev pub ClientPuts : ℕ → Option CallFault → (Planned ClientEvent → Type 0)
    → Held ClientRule ClientEntry → List ℕ → Result (Unit {0}) SessionFault
    → Held ClientRule ClientEntry → List ℕ → Type 0
ClientPuts = Puts (rules_of client_step is_closed is_gathering) in_call

-- it calls
abbrev pub PutsCall : Interface → Limits → Request → Form
    → Held ClientRule ClientEntry → List ℕ → Result (Unit {0}) SessionFault
    → Held ClientRule ClientEntry → List ℕ → Type 0
PutsCall interface limits q form h =
    ClientPuts q.head.id (call_fault interface limits (entry_at h q.head.id) q form)
    (IsCall interface q form) h

-- it asks where an object is
abbrev pub PutsLocate : Limits → AnyLocateRequest → Form
    → Held ClientRule ClientEntry → List ℕ → Result (Unit {0}) SessionFault
    → Held ClientRule ClientEntry → List ℕ → Type 0
PutsLocate limits q form h =
    ClientPuts q.id (locate_fault limits (entry_at h q.id) q form) (IsLocate q form) h

-- it cancels a call
abbrev pub PutsCancel : ℕ → Order
    → Held ClientRule ClientEntry → List ℕ → Result (Unit {0}) SessionFault
    → Held ClientRule ClientEntry → List ℕ → Type 0
PutsCancel id order h =
    ClientPuts id (cancel_fault (open_version (entry_at h id)))
    (IsCancel id order (open_version (entry_at h id))) h
