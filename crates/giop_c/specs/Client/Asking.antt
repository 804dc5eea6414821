-- What the program of a client asks by C: that an operation be carried out (CORBA 3.3 Part 2, 9.4.2), or
-- where an object is (9.4.5).
use Rattle.std.specs.Prelude.{◌≡◌, ◌⊎◌, ℕ, ◌==◌, if◌then◌else◌, List, [], Option, Some, None, Result, Ok, Err}
use Rattle.std_alloc.specs.Arc.{arc_value}
use Rattle.giop_types.specs.declared.interfaces.interface.Operation.{Operation}
use Rattle.giop_types.specs.Values.Tree.{Tree}
use Rattle.giop_msg.specs.declared.messages.request.Request.{Request}
use Rattle.giop_msg.specs.declared.target.Target.TheVariants.{Key, Profile}
use Rattle.giop_msg.specs.Locate.{AnyLocateRequest}
use Rattle.giop_msg.specs.Messages.Request.{operation_of}
use Rattle.giop_msg.specs.Target.{AnyTarget}
use Rattle.giop_msg.specs.Version.{version_of}
use Rattle.giop_end.specs.declared.acts.form.Form.{Form}
use Rattle.giop_end.specs.declared.session_fault.SessionFault.{SessionFault}
use Rattle.giop_end.specs.declared.session_fault.SessionFault.TheVariants as session
use Rattle.giop_end.specs.Acts.ClientCalls.{IsCall, IsLocate, call_fault, locate_fault}
use Rattle.giop_table.specs.CallTable.{entry_at}
use Rattle.giop_c.specs.declared.act_fault.ActFault.{ActFault}
use Rattle.giop_c.specs.declared.act_fault.ActFault.TheVariants as refused
use Rattle.giop_c.specs.declared.client.asking.CallHead.{CallHead}
use Rattle.giop_c.specs.declared.client.caller.Caller.{Caller}
use Rattle.giop_c.specs.declared.value_form.ValueForm.{ValueForm}
use Rattle.giop_c.specs.Acts.{InForm, IsReadAs, OrNot, of_end, values_in}
use Rattle.giop_c.specs.Client.Ends.{PutsAtClient}

-- the target that octets are: the object's key, or the data of an IIOP profile, whose tag is 0
abbrev pub target_of : CallHead → List ℕ → AnyTarget
target_of head octets =
    if head.target == 0 then Key octets else Profile (record { tag = 0; octets = octets })

-- the Request of an operation with these ins, without service contexts
abbrev pub request_of : ℕ → CallHead → List ℕ → List ℕ → List Tree → Request
request_of id head target operation ins = record {
  head = record {
    version = version_of head.minor;
    id = id;
    flags = head.flags;
    target = target_of head target;
    operation = operation;
    contexts = [];
  };
  body = ins;
}

-- the LocateRequest
abbrev pub locate_of : ℕ → CallHead → List ℕ → AnyLocateRequest
locate_of id head target =
    record { version = version_of head.minor; id = id; target = target_of head target }

-- the ins that octets are: they are read by the operation, or refused; where there is no operation
-- they aren't read
abbrev pub IsRead : Option Operation → ValueForm → List ℕ → Result (List Tree) ActFault → Type 0
IsRead None value_form octets ins = ins ≡ Ok []
IsRead (Some operation) value_form octets ins =
    IsReadAs (values_in operation.ins.list.items value_form octets) ins

-- the Request with these ins; or memory ran out
abbrev pub IsMade : (List Tree → Request) → Result (List Tree) ActFault → Result Request ActFault
    → Type 0
IsMade request (Ok ins) asked =
    (asked ≡ Ok (request ins)) ⊎ (asked ≡ Err (refused.End session.NoMemory))
IsMade request (Err why) asked = asked ≡ Err why

-- the Request of an operation that is made of octets
abbrev pub IsAsked : Option Operation → ValueForm → List ℕ → (List Tree → Request)
    → Result Request ActFault → Type 0
IsAsked operation value_form octets request asked =
    (ins : Result (List Tree) ActFault) × IsRead operation value_form octets ins
    × IsMade request ins asked

-- a Request is sent
abbrev pub SendsRequest : Request → Form → Caller → Result (Unit {0}) SessionFault → Caller → Type 0
SendsRequest q form old answer new =
    PutsAtClient q.head.id
    (call_fault (arc_value old.interface) old.end.limits (entry_at old.end.calls q.head.id) q
    form)
    (IsCall (arc_value old.interface) q form) old answer new

-- the one that was made is; where none was, that is answered, and nothing has changed
abbrev pub SendsAsked : Result Request ActFault → Form → Caller → Result (Unit {0}) ActFault
    → Caller → Type 0
SendsAsked (Ok q) form old answer new =
    (told : Result (Unit {0}) SessionFault) × (answer ≡ of_end told)
    × SendsRequest q form old told new
SendsAsked (Err why) form old answer new = (answer ≡ Err why) × (new ≡ old)

-- an operation is called, by its ins in a form
abbrev pub CallsOperation : ℕ → CallHead → List ℕ → List ℕ → ValueForm → List ℕ → Form → Caller
    → Result (Unit {0}) ActFault → Caller → Type 0
CallsOperation id head target operation value_form octets form old answer new =
    InForm form old answer new ((asked : Result Request ActFault)
    × IsAsked (operation_of (arc_value old.interface) operation) value_form octets
    (request_of id head target operation) asked
    × SendsAsked asked form old answer new)

-- a LocateRequest is sent
abbrev pub SendsLocate : AnyLocateRequest → Form → Caller → Result (Unit {0}) SessionFault → Caller
    → Type 0
SendsLocate q form old answer new =
    PutsAtClient q.id (locate_fault old.end.limits (entry_at old.end.calls q.id) q form)
    (IsLocate q form) old answer new

-- it is asked where an object is
abbrev pub AsksWhere : ℕ → CallHead → List ℕ → Form → Caller → Result (Unit {0}) ActFault → Caller
    → Type 0
AsksWhere id head target form old answer new =
    InForm form old answer new
    (OrNot (λ told. SendsLocate (locate_of id head target) form old told new) old answer new)
