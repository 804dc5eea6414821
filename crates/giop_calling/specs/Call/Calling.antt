-- What the program of `call` does at its end: it calls, waits until its calls are over, and writes
-- what is outgoing (CORBA 3.3 Part 2, 9.4.2).
use Rattle.std.specs.Prelude.{◌≡◌, ℕ, if◌then◌else◌, Bool, true, false, List, [], Option, Some, None, Result, Ok}
use Rattle.std.specs.FinMap as finite
use Rattle.std.specs.List.{list_all}
use Rattle.giop_msg.specs.declared.messages.request.Request.{Request}
use Rattle.giop_msg.specs.declared.msg.Msg.{Msg}
use Rattle.giop_msg.specs.declared.target.Target.TheVariants.{Key}
use Rattle.giop_msg.specs.declared.version.Version.{Version}
use Rattle.giop_types.specs.declared.interfaces.interface.Interface.{Interface}
use Rattle.giop_calls.specs.declared.client.entry.ClientEntry.{ClientEntry}
use Rattle.giop_calls.specs.declared.client.event.ClientEvent.{ClientEvent}
use Rattle.giop_calls.specs.declared.client.event.ClientEvent.TheVariants as event
use Rattle.giop_calls.specs.declared.client.rule.ClientRule.{ClientRule}
use Rattle.giop_calls.specs.declared.fault.CallFault.{CallFault}
use Rattle.giop_calls.specs.ClientTable.{client_step, is_closed, is_gathering, left_of}
use Rattle.giop_end.specs.declared.acts.form.Form.{Form}
use Rattle.giop_end.specs.declared.end.End.{End}
use Rattle.giop_end.specs.declared.limits.Limits.{Limits}
use Rattle.giop_end.specs.declared.session_fault.SessionFault.{SessionFault}
use Rattle.giop_end.specs.Ends.Begun.{no_calls}
use Rattle.giop_table.specs.CallTable.{Held, rules_of}
use Rattle.giop_end.specs.Acts.ClientCalls.{IsCall, call_fault}
use Rattle.giop_end.specs.Hearing.ClientHears.{client_act, client_breaks}
use Rattle.giop_end.specs.Hearing.Heard.{hears_by, in_call}
use Rattle.giop_end.specs.Ends.View.{end_between}
use Rattle.giop_end.specs.Pumping.{Between, between}
use Rattle.giop_table.specs.Sending.{entry_of}
use Rattle.giop_asked_calls.specs.declared.calls.CallLine.{CallLine}
use Rattle.giop_calling.specs.declared.call.given.Calling.{Calling}
use Rattle.giop_show.specs.declared.failure.Failure.{Failure}
use Rattle.giop_commands.specs.Session.Acts.{ActsOrTells, Outbox, SendsAll, outbox}
use Rattle.giop_commands.specs.Check.{nothing_read}
use Rattle.giop_commands.specs.Session.Steps.{AndThen, Upto}
use Rattle.giop_commands.specs.Session.Turns.{Waits, WaitsAt, WritesOut}

-- a Request of a call: to the object of a key, for a reply unless the operation is oneway
abbrev pub request_of : CallLine → List ℕ → Version → Request
request_of call key version = record {
  head = record {
    version = version;
    id = call.id;
    flags = if call.oneway then 0 else 3;
    target = Key key;
    operation = call.operation;
    contexts = [];
  };
  body = call.ins;
}

-- the calls of a client
abbrev pub ClientCalls : Type 0
ClientCalls = Held ClientRule ClientEntry

-- a client's end, as contracts see it
abbrev pub ClientSide : Type 0
ClientSide = End ClientRule ClientEntry ClientEvent (Unit {0}) CallFault

-- an end that has no calls and has heard nothing, by the interface and the limits of what is called
pub record IsNew (calling : Calling) (end : ClientSide) : Type 0 where
  pub interface : end.interface.now ≡ calling.interface.now
  pub limits : end.limits ≡ calling.limits
  pub calls : end.calls ≡ no_calls (record {}) calling.limits
  pub unread : end.framer ≡ record { limit = calling.limits.message; octets = [] }
  pub outgoing : end.outgoing ≡ []
  pub fault : end.fault ≡ None

-- what is stored for an id
abbrev pub entry_at : ClientCalls → ℕ → Option ClientEntry
entry_at calls id = entry_of (finite.get calls.table id)

-- what is asked of `call`: these calls of an interface, of the object of a key, in a version and a
-- form, by an end with these limits
pub record Asked : Type 0 where
  pub interface : Interface
  pub calls : List CallLine
  pub key : List ℕ
  pub version : Version
  pub form : Form
  pub limits : Limits

abbrev pub asked_of : Calling → List CallLine → Asked
asked_of calling calls = record {
  interface = calling.interface.now;
  calls = calls;
  key = calling.key.now;
  version = calling.version;
  form = calling.form;
  limits = calling.limits;
}

-- a call is made, by an end at which this fault stands, if one does
abbrev pub CallsOne : Asked → Option SessionFault → CallLine → Outbox ClientCalls
    → Option SessionFault → Outbox ClientCalls → Type 0
CallsOne asked fault call s =
    ActsOrTells (rules_of client_step is_closed is_gathering) in_call fault call.id
    (call_fault asked.interface asked.limits (entry_at s.calls call.id)
    (request_of call asked.key asked.version) asked.form)
    (IsCall asked.interface (request_of call asked.key asked.version) asked.form) s

-- the pieces that are left of all calls are put out
abbrev pub CallsSent : Option SessionFault → Outbox ClientCalls → Option SessionFault
    → Outbox ClientCalls → Type 0
CallsSent fault =
    SendsAll (λ rule. client_step) (λ rule. is_closed) is_gathering in_call event.Send fault left_of

-- each call is made, in their order, and then the pieces that are left are put out
abbrev pub CallsAll : Asked → Option SessionFault → Outbox ClientCalls → Option SessionFault
    → Outbox ClientCalls → Type 0
CallsAll asked fault = AndThen (Upto (CallsOne asked fault) asked.calls) (CallsSent fault)

-- whether a call is over
abbrev pub is_over : Option ClientEntry → Bool
is_over (Some entry) = is_closed entry
is_over None = true

-- whether the calls of these ids are
abbrev pub are_over : List ℕ → ClientCalls → Bool
are_over ids calls = list_all (λ id. is_over (entry_at calls id)) ids

-- what a client of an interface does by a message
abbrev pub client_hears : Interface → Msg → ClientCalls → Result (Unit {0}) SessionFault
    → ClientCalls → Type 0
client_hears interface =
    hears_by (λ rule. client_step) (λ rule. is_closed) is_gathering in_call client_breaks
    (client_act interface)

-- turns are taken until the calls of these ids are over
abbrev pub WaitsFor : Interface → List ℕ → (input output : Option (List ℕ)) → ClientSide
    → Result (Unit {0}) Failure → (input' output' : Option (List ℕ)) → ClientSide → Type 0
WaitsFor interface ids = WaitsAt (client_hears interface) (are_over ids)

-- what is outgoing is written, and replies are read until all calls are over; nothing is read where
-- they are over at first
abbrev pub ConversesIf : Interface → Bool → Between ClientCalls → Between ClientCalls → Type 0
ConversesIf interface true s t = WritesOut s t
ConversesIf interface false s t =
    Waits (client_hears interface) (are_over (finite.keys s.state.calls.table)) s (Ok tt) t

abbrev pub Converses : Interface → Between ClientCalls → Between ClientCalls → Type 0
Converses interface s =
    ConversesIf interface (are_over (finite.keys s.state.calls.table) s.state.calls) s

-- the client converses unless a call was refused: then nothing is written, and nothing read
abbrev pub Talks : Interface → Option SessionFault → Between ClientCalls → Between ClientCalls
    → Type 0
Talks interface None s t = Converses interface s t
Talks interface (Some why) s t = t ≡ s

-- so it goes at an end between a reader and a writer of these octets
abbrev pub ConversesAt : Interface → (input output : Option (List ℕ)) → ClientSide
    → (input' output' : Option (List ℕ)) → ClientSide → Type 0
ConversesAt interface input output e input' output' e' =
    Converses interface (end_between input output e) (end_between input' output' e')

abbrev pub TalksAt : Interface → Option SessionFault → (input output : Option (List ℕ))
    → ClientSide → (input' output' : Option (List ℕ)) → ClientSide → Type 0
TalksAt interface refused input output e input' output' e' =
    Talks interface refused (end_between input output e) (end_between input' output' e')

-- a new end with these limits, of which nothing is outgoing
abbrev pub new_box : Limits → Outbox ClientCalls
new_box limits = outbox (no_calls (record {}) limits) []

-- such an end once its calls are made, between a reader and a writer
abbrev pub begun : Limits → Option (List ℕ) → Option (List ℕ) → Outbox ClientCalls
    → Between ClientCalls
begun limits input output box =
    between input output box.outgoing (nothing_read limits) box.calls None
