-- What `serve` answers to what stands under an id.
use Rattle.std.specs.Prelude.{◌≡◌, ℕ, ◌==◌, Bool, true, false, List, Option, Some, None, nat_eq, if◌then◌else◌, codes}
use Rattle.std.specs.Cmp.Lexicographic.{pointwise}
use Rattle.giop_msg.specs.declared.messages.request.Request.{Request}
use Rattle.giop_msg.specs.declared.messages.request_fault.RequestFault.{RequestFault}
use Rattle.giop_msg.specs.declared.messages.request_fault.RequestFault.TheVariants.{Header, Operation, Body}
use Rattle.giop_msg.specs.declared.target.Target.TheVariants.{Key, Profile, Reference}
use Rattle.giop_msg.specs.declared.version.Version.{Version}
use Rattle.giop_msg.specs.Target.{AnyTarget}
use Rattle.giop_calls.specs.declared.kind.CallKind.{CallKind}
use Rattle.giop_calls.specs.declared.kind.CallKind.TheVariants as kind
use Rattle.giop_calls.specs.declared.server.entry.ServerEntry.{ServerEntry}
use Rattle.giop_calls.specs.declared.server.entry.ServerEntry.TheVariants.{Asked, Undecoded, LocateAsked}
use Rattle.giop_calls.specs.declared.server.undecoded.UndecodedCall.{UndecodedCall}
use Rattle.giopctl.specs.declared.commands.answering.Answer.{Answer}
use Rattle.giopctl.specs.declared.commands.answering.Answer.TheVariants.{Given, NoObject, BadOperation, Marshal, Addressing}
use Rattle.giopctl.specs.declared.commands.answering.Due.{Due}
use Rattle.giopctl.specs.declared.commands.answering.Due.TheVariants.{Nothing, Locate, Reply}

-- whether a target is the object of a key
abbrev pub is_object : List ℕ → AnyTarget → Bool
is_object key (Key object_key) = pointwise nat_eq object_key key
is_object key (Profile profile) = false
is_object key (Reference index ior) = false

-- the answer to a Request by its target: of the object of the key what is given, of another none,
-- and a target that is no key has to be addressed by one
abbrev pub answer_to : List ℕ → ℕ → AnyTarget → Answer
answer_to key flags (Key object_key) =
    if pointwise nat_eq object_key key then Given (flags == 1) else NoObject
answer_to key flags (Profile profile) = Addressing
answer_to key flags (Reference index ior) = Addressing

-- the answer to a Request that couldn't be decoded
abbrev pub fault_answer : RequestFault → Answer
fault_answer Operation = BadOperation
fault_answer (Header e) = Marshal
fault_answer (Body e) = Marshal

-- what is due to what couldn't be decoded, by the reply that is expected
abbrev pub due_to_undecoded : Option CallKind → Version → RequestFault → Due
due_to_undecoded (Some kind.Request) version fault = Reply version (fault_answer fault)
due_to_undecoded (Some kind.Locate) version fault = Locate false
due_to_undecoded None version fault = Nothing

-- what is due to what stands under an id, of an end that serves the object of a key
abbrev pub due_to : List ℕ → ServerEntry → Due
due_to key (Asked request) =
    Reply request.head.version (answer_to key request.head.flags request.head.target)
due_to key (Undecoded call) = due_to_undecoded call.expects call.version call.fault
due_to key (LocateAsked request) = Locate (is_object key request.target)
due_to key _ = Nothing
