-- What `serve` answers to what is stored for an id.
use Rattle.std.specs.Prelude.{ℕ, pos, ◌==◌, Bool, true, false, List, [], Option, Some, None, is_some, if◌then◌else◌, codes}
use Rattle.giop_types.specs.declared.interfaces.interface.Interface.{Interface}
use Rattle.giop_types.specs.declared.interfaces.offer.Offer.{Offer}
use Rattle.giop_types.specs.Values.Tree.{Tree}
use Rattle.giop_msg.specs.declared.messages.completion.Completion.TheVariants.{No}
use Rattle.giop_msg.specs.declared.messages.reply.Reply.{Reply as AnyReply}
use Rattle.giop_msg.specs.declared.messages.reply_body.ReplyBody.{ReplyBody}
use Rattle.giop_msg.specs.declared.messages.reply_body.ReplyBody.TheVariants.{NoException, UserException, SystemException, Forward, ForwardPerm, NeedsAddressing}
use Rattle.giop_msg.specs.declared.messages.request_fault.RequestFault.{RequestFault}
use Rattle.giop_msg.specs.declared.messages.request_fault.RequestFault.TheVariants.{Header, Operation, Body}
use Rattle.giop_msg.specs.declared.target.Target.TheVariants.{Key, Profile, Reference}
use Rattle.giop_msg.specs.declared.version.Version.{Version}
use Rattle.giop_msg.specs.Messages.Request.{offer_at}
use Rattle.giop_msg.specs.Target.{AnyTarget}
use Rattle.giop_calls.specs.declared.kind.CallKind.{CallKind}
use Rattle.giop_calls.specs.declared.kind.CallKind.TheVariants as kind
use Rattle.giop_calls.specs.declared.server.entry.ServerEntry.{ServerEntry}
use Rattle.giop_calls.specs.declared.server.entry.ServerEntry.TheVariants.{Asked, Undecoded, LocateAsked}
use Rattle.giop_serving.specs.declared.serve.answers.AnswerGiven.{AnswerGiven}
use Rattle.giop_serving.specs.declared.serve.answers.AnswerGiven.TheVariants as given
use Rattle.giop_serving.specs.declared.serve.answers.AnswerGiven.TheVariants.{Ok as ok, User, System, IsA}
use Rattle.giop_serving.specs.declared.serve.answering.Answer.{Answer}
use Rattle.giop_serving.specs.declared.serve.answering.Answer.TheVariants.{Given, NoObject, BadOperation, Marshal, Addressing}
use Rattle.giop_serving.specs.declared.serve.answering.Due.{Due}
use Rattle.giop_serving.specs.declared.serve.answering.Due.TheVariants.{Nothing, Locate, Reply}
use Rattle.giop_serving.specs.declared.serve.in_turn.AnswerName.{AnswerName}
use Rattle.giop_serving.specs.Serve.AnswerForms.{given_in}
use Rattle.giop_serving.specs.Serve.InTurn.{passed_of}
use Rattle.giop_serving.specs.Serve.Objects.{Object, object_at, object_for}
use Rattle.giop_serving.specs.Serve.IsA.{is_a_body}

-- whether a target is one of the objects, by its key
abbrev pub is_object : List Object → AnyTarget → Bool
is_object objects target = is_some (object_for objects target)

-- the answer to a Request by its target: of one of the objects what is given, of another none, and
-- a target that is no key has to be addressed by one
abbrev pub answer_to : List Object → ℕ → AnyTarget → Answer
answer_to objects flags (Key key) =
    if is_some (object_at objects key) then Given (flags == 1) else NoObject
answer_to objects flags (Profile profile) = Addressing
answer_to objects flags (Reference index ior) = Addressing

-- the answer to a Request that couldn't be decoded
abbrev pub fault_answer : RequestFault → Answer
fault_answer Operation = BadOperation
fault_answer (Header e) = Marshal
fault_answer (Body e) = Marshal

-- what is due to what couldn't be decoded, by the reply that is expected
abbrev pub due_to_undecoded : Option CallKind → Version → RequestFault → Due
due_to_undecoded (Some kind.Request) version fault = Reply version (fault_answer fault)
due_to_undecoded (Some kind.Locate) version fault = Locate false
due_to_undecoded None version fault = Nothing

-- what is due to what is stored for an id, of an end that serves these objects
abbrev pub due_to : List Object → ServerEntry → Due
due_to objects (Asked request) =
    Reply request.head.version (answer_to objects request.head.flags request.head.target)
due_to objects (Undecoded call) = due_to_undecoded call.expects call.version call.fault
due_to objects (LocateAsked request) = Locate (is_object objects request.target)
due_to objects _ = Nothing

-- ---- the Reply

-- a result as the caller wants it: without values, where it wants none
abbrev pub result_for : Bool → ReplyBody → ReplyBody
result_for true (NoException outs) = NoException []
result_for quiet body = body

-- what is given for an operation with these ins: a result, an exception or a forward; a result
-- without values where nothing is, as for a oneway operation
abbrev pub given_body : List Tree → Option AnswerGiven → ReplyBody
given_body ins (Some (ok outs)) = NoException outs
given_body ins (Some (User id members)) = UserException id members
given_body ins (Some (System id minor completion)) = SystemException id minor completion
given_body ins (Some (IsA id)) = is_a_body id ins
given_body ins (Some (given.Forward ior)) = Forward ior
given_body ins (Some (given.ForwardPerm ior)) = ForwardPerm ior
given_body ins None = NoException []

-- the ins of a Request that is answered
abbrev pub asked_ins : ServerEntry → List Tree
asked_ins (Asked request) = request.body
asked_ins _ = []

-- what an object gives for an operation by what it offers, where some answers are passed; nothing
-- where it isn't served
abbrev pub given_at : Offer → Option Object → List AnswerName → List ℕ → Option AnswerGiven
given_at offer (Some object) passed name =
    given_in offer object.answers (passed_of passed object.key name) name
given_at offer None passed name = None

-- what is given for the operation of a Request
abbrev pub given_to : Interface → List Object → List AnswerName → ServerEntry → Option AnswerGiven
given_to interface objects passed (Asked request) =
    given_at (offer_at interface request.head.target) (object_for objects request.head.target)
    passed request.head.operation
given_to interface objects passed _ = None

-- a system exception of an operation that wasn't carried out
abbrev pub not_done : List ℕ → ReplyBody
not_done id = SystemException id 0 No

abbrev pub body_of : Interface → List Object → List AnswerName → ServerEntry → Answer → ReplyBody
body_of interface objects passed entry (Given quiet) =
    result_for quiet (given_body (asked_ins entry) (given_to interface objects passed entry))
body_of interface objects passed entry NoObject =
    not_done (codes "IDL:omg.org/CORBA/OBJECT_NOT_EXIST:1.0")
body_of interface objects passed entry BadOperation =
    not_done (codes "IDL:omg.org/CORBA/BAD_OPERATION:1.0")
body_of interface objects passed entry Marshal = not_done (codes "IDL:omg.org/CORBA/MARSHAL:1.0")
body_of interface objects passed entry Addressing = NeedsAddressing (pos 0)

-- the Reply to what is stored for an id
abbrev pub reply_of : Interface → List Object → List AnswerName → ℕ → ServerEntry → Version → Answer
    → AnyReply
reply_of interface objects passed id entry version answer = record {
  version = version;
  id = id;
  contexts = [];
  body = body_of interface objects passed entry answer;
}
