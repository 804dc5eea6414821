-- What `serve` answers to what is stored for an id.
use Rattle.std.specs.Prelude.{◌≡◌, ℕ, pos, ◌==◌, Bool, true, false, List, [], Option, Some, None, nat_eq, if◌then◌else◌, codes}
use Rattle.std.specs.Cmp.Lexicographic.{pointwise}
use Rattle.serde_json.specs.Data.{Data}
use Rattle.giop_types.specs.declared.json.interface.Interface.{Interface}
use Rattle.giop_types.specs.Values.Tree.{Tree}
use Rattle.giop_msg.specs.declared.messages.completion.Completion.TheVariants.{No}
use Rattle.giop_msg.specs.declared.messages.reply.Reply.{Reply as AnyReply}
use Rattle.giop_msg.specs.declared.messages.reply_body.ReplyBody.{ReplyBody}
use Rattle.giop_msg.specs.declared.messages.reply_body.ReplyBody.TheVariants.{NoException, UserException, SystemException, Forward, ForwardPerm, NeedsAddressing}
use Rattle.giop_msg.specs.declared.messages.request.Request.{Request}
use Rattle.giop_msg.specs.declared.messages.request_fault.RequestFault.{RequestFault}
use Rattle.giop_msg.specs.declared.messages.request_fault.RequestFault.TheVariants.{Header, Operation, Body}
use Rattle.giop_msg.specs.declared.target.Target.TheVariants.{Key, Profile, Reference}
use Rattle.giop_msg.specs.declared.version.Version.{Version}
use Rattle.giop_msg.specs.Messages.Request.{offer_at}
use Rattle.giop_msg.specs.Target.{AnyTarget}
use Rattle.giop_calls.specs.declared.kind.CallKind.{CallKind}
use Rattle.giop_calls.specs.declared.kind.CallKind.TheVariants as kind
use Rattle.giop_calls.specs.declared.server.entry.ServerEntry.{ServerEntry}
use Rattle.giop_calls.specs.declared.server.entry.ServerEntry.TheVariants.{Asked, Undecoded, LocateAsked}
use Rattle.giop_calls.specs.declared.server.undecoded.UndecodedCall.{UndecodedCall}
use Rattle.giop_commands.specs.declared.serve.answers.AnswerGiven.{AnswerGiven}
use Rattle.giop_commands.specs.declared.serve.answers.AnswerGiven.TheVariants as given
use Rattle.giop_commands.specs.declared.serve.answers.AnswerGiven.TheVariants.{Ok as ok, User, System, IsA}
use Rattle.giop_commands.specs.declared.serve.answering.Answer.{Answer}
use Rattle.giop_commands.specs.declared.serve.answering.Answer.TheVariants.{Given, NoObject, BadOperation, Marshal, Addressing}
use Rattle.giop_commands.specs.declared.serve.answering.Due.{Due}
use Rattle.giop_commands.specs.declared.serve.answering.Due.TheVariants.{Nothing, Locate, Reply}
use Rattle.giop_commands.specs.AnswerForms.{given_in}
use Rattle.giop_commands.specs.IsA.{is_a_body}

-- whether a target is the object of a key
abbrev pub is_object : List ℕ → AnyTarget → Bool
is_object key (Key object_key) = pointwise nat_eq object_key key
is_object key (Profile profile) = false
is_object key (Reference index ior) = false

-- the answer to a Request by its target: of the object of the key what is given, of another none,
-- and a target that is no key has to be addressed by one
abbrev pub answer_to : List ℕ → ℕ → AnyTarget → Answer
answer_to key flags (Key object_key) =
    if pointwise nat_eq object_key key then Given (flags == 1) else NoObject
answer_to key flags (Profile profile) = Addressing
answer_to key flags (Reference index ior) = Addressing

-- the answer to a Request that couldn't be decoded
abbrev pub fault_answer : RequestFault → Answer
fault_answer Operation = BadOperation
fault_answer (Header e) = Marshal
fault_answer (Body e) = Marshal

-- what is due to what couldn't be decoded, by the reply that is expected
abbrev pub due_to_undecoded : Option CallKind → Version → RequestFault → Due
due_to_undecoded (Some kind.Request) version fault = Reply version (fault_answer fault)
due_to_undecoded (Some kind.Locate) version fault = Locate false
due_to_undecoded None version fault = Nothing

-- what is due to what is stored for an id, of an end that serves the object of a key
abbrev pub due_to : List ℕ → ServerEntry → Due
due_to key (Asked request) =
    Reply request.head.version (answer_to key request.head.flags request.head.target)
due_to key (Undecoded call) = due_to_undecoded call.expects call.version call.fault
due_to key (LocateAsked request) = Locate (is_object key request.target)
due_to key _ = Nothing

-- ---- the Reply

-- a result as the caller wants it: without values, where it wants none
abbrev pub result_for : Bool → ReplyBody → ReplyBody
result_for true (NoException outs) = NoException []
result_for quiet body = body

-- what is given for an operation with these ins: a result, an exception or a forward; a result
-- without values where nothing is, as for a oneway operation
abbrev pub given_body : List Tree → Option AnswerGiven → ReplyBody
given_body ins (Some (ok outs)) = NoException outs
given_body ins (Some (User id members)) = UserException id members
given_body ins (Some (System id minor completion)) = SystemException id minor completion
given_body ins (Some (IsA id)) = is_a_body id ins
given_body ins (Some (given.Forward ior)) = Forward ior
given_body ins (Some (given.ForwardPerm ior)) = ForwardPerm ior
given_body ins None = NoException []

-- the ins of a Request that is answered
abbrev pub asked_ins : ServerEntry → List Tree
asked_ins (Asked request) = request.body
asked_ins _ = []

-- what is given for the operation of a Request, by the answers to what its object offers, of which
-- some are passed
abbrev pub given_to : Interface → Data → List (List ℕ) → ServerEntry → Option AnswerGiven
given_to interface answers passed (Asked request) =
    given_in (offer_at interface request.head.target) answers passed request.head.operation
given_to interface answers passed _ = None

-- a system exception of an operation that wasn't carried out
abbrev pub not_done : List ℕ → ReplyBody
not_done id = SystemException id 0 No

abbrev pub body_of : Interface → Data → List (List ℕ) → ServerEntry → Answer → ReplyBody
body_of interface answers passed entry (Given quiet) =
    result_for quiet (given_body (asked_ins entry) (given_to interface answers passed entry))
body_of interface answers passed entry NoObject =
    not_done (codes "IDL:omg.org/CORBA/OBJECT_NOT_EXIST:1.0")
body_of interface answers passed entry BadOperation =
    not_done (codes "IDL:omg.org/CORBA/BAD_OPERATION:1.0")
body_of interface answers passed entry Marshal = not_done (codes "IDL:omg.org/CORBA/MARSHAL:1.0")
body_of interface answers passed entry Addressing = NeedsAddressing (pos 0)

-- the Reply to what is stored for an id
abbrev pub reply_of : Interface → Data → List (List ℕ) → ℕ → ServerEntry → Version → Answer → AnyReply
reply_of interface answers passed id entry version answer = record {
  version = version;
  id = id;
  contexts = [];
  body = body_of interface answers passed entry answer;
}
