-- What a server's own program answers (CORBA 3.3 Part 2, 9.4.3, 9.4.6).
use Rattle.std.specs.Prelude.{◌≡◌, ℕ, ◌<◌, ◌^◌, ◌&&◌, Bool, true, false, if◌then◌else◌, List, [], length, Option, Some, None, Result}
use Rattle.giop_cdr.specs.declared.order.Order.{Order}
use Rattle.giop_types.specs.declared.interfaces.interface.Interface.{Interface}
use Rattle.giop_msg.specs.declared.kind.Kind.TheVariants as message
use Rattle.giop_msg.specs.declared.messages.reply.Reply.{Reply}
use Rattle.giop_msg.specs.declared.messages.request.Request.{Request}
use Rattle.giop_msg.specs.declared.msg.Msg.{Msg}
use Rattle.giop_msg.specs.declared.version.Version.{Version}
use Rattle.giop_msg.specs.Cut.{message_of}
use Rattle.giop_msg.specs.Messages.LocateReply.{locate_reply}
use Rattle.giop_msg.specs.Messages.Outcome.{joined_into}
use Rattle.giop_msg.specs.Messages.Reply.{reply}
use Rattle.giop_calls.specs.declared.fault.CallFault.{CallFault}
use Rattle.giop_calls.specs.declared.fault.CallFault.TheVariants.{NotOpen, WrongKind}
use Rattle.giop_calls.specs.declared.kind.CallKind.{CallKind}
use Rattle.giop_calls.specs.declared.kind.CallKind.TheVariants as kind
use Rattle.giop_calls.specs.declared.server.entry.ServerEntry.{ServerEntry}
use Rattle.giop_calls.specs.declared.server.entry.ServerEntry.TheVariants.{Asked, LocateAsked, Undecoded}
use Rattle.giop_calls.specs.declared.server.event.ServerEvent.{ServerEvent}
use Rattle.giop_calls.specs.declared.server.event.ServerEvent.TheVariants as event
use Rattle.giop_calls.specs.declared.server.rule.ServerRule.{ServerRule}
use Rattle.giop_calls.specs.declared.server.undecoded.UndecodedCall.{UndecodedCall}
use Rattle.giop_calls.specs.ServerTable.{is_closed, is_gathering, server_step}
use Rattle.giop_end.specs.declared.acts.form.Form.{Form}
use Rattle.giop_end.specs.declared.limits.Limits.{Limits}
use Rattle.giop_table.specs.declared.plan.Planned.{Planned}
use Rattle.giop_end.specs.declared.session_fault.SessionFault.{SessionFault}
use Rattle.giop_end.specs.Acts.Form.{is_sendable}
use Rattle.giop_end.specs.Acts.Putting.{Puts}
use Rattle.giop_table.specs.CallTable.{Held, entry_at, rules_of}
use Rattle.giop_end.specs.Hearing.Heard.{in_call, silently}
use Rattle.giop_end.specs.Acts.Refused.{unfit_unless}
use Rattle.giop_end.specs.Acts.Sent.{IsValueSent, sends_one}

-- the joined octets of a Reply to a Request, which is known where it could be decoded
abbrev pub reply_octets : Interface → Option Request → Reply → Order → List ℕ
reply_octets interface question answer order =
    ((reply interface question answer.version).written answer (joined_into order)).octets

-- whether there are such octets, and within the limits of the end
abbrev pub is_reply_sendable : Interface → Limits → Option Request → Reply → Form → Bool
is_reply_sendable interface limits question answer form =
    (reply interface question answer.version).fits answer
    && is_sendable limits.gathered limits.message answer.version
    (length (reply_octets interface question answer form.order)) form.piece

-- the Request of a call that couldn't be decoded, where it waits for a Reply: none that is known
abbrev pub undecoded_question : Option CallKind → Option (Option Request)
undecoded_question (Some kind.Request) = Some None
undecoded_question (Some kind.Locate) = None
undecoded_question None = None

-- the Request of an entry that waits for a Reply, where one does; it is known where it could be
-- decoded
abbrev pub question_in : ServerEntry → Option (Option Request)
question_in (Asked q) = Some (Some q)
question_in (Undecoded call) = undecoded_question call.expects
question_in _ = None

-- the Request under an id
abbrev pub question_of : Option ServerEntry → Option (Option Request)
question_of None = None
question_of (Some entry) = question_in entry

-- whether a LocateRequest waits for its answer
abbrev pub expects_locate : Option CallKind → Bool
expects_locate (Some kind.Locate) = true
expects_locate (Some kind.Request) = false
expects_locate None = false

abbrev pub is_locate : ServerEntry → Bool
is_locate (LocateAsked q) = true
is_locate (Undecoded call) = expects_locate call.expects
is_locate _ = false

-- why no Reply is sent under an id, where no Request waits for one
abbrev pub unasked_fault : Option ServerEntry → CallFault
unasked_fault None = NotOpen
unasked_fault (Some entry) = if is_locate entry then WrongKind else NotOpen

-- a Request waits for a Reply, and octets spell this one as a reply to it
abbrev pub IsFitAnswer : Interface → Option (Option Request) → Reply → Type 0
IsFitAnswer interface None answer = ⊥
IsFitAnswer interface (Some question) answer =
    (reply interface question answer.version).fits answer ≡ true

-- why a Reply is not sent, where one is waited for; else the table refuses it
abbrev pub answer_fault : Interface → Limits → Option (Option Request) → Reply → Form
    → Option CallFault
answer_fault interface limits None answer form = None
answer_fault interface limits (Some question) answer form =
    unfit_unless (is_reply_sendable interface limits question answer form)

-- it is sent, where one is waited for, and its numbers are in range; else the table is asked alone
abbrev pub IsAnswer : Interface → Option (Option Request) → Reply → Form → Planned ServerEvent
    → Type 0
IsAnswer interface None answer form planned = planned ≡ silently (event.Answer answer 1)
IsAnswer interface (Some question) answer form planned =
    IsValueSent (reply interface question answer.version) answer answer.version message.Reply form
    (reply_octets interface question answer form.order) (event.Answer answer) planned

-- the version of a LocateRequest that couldn't be decoded, where it waits for this LocateReply: no
-- object of it is here
abbrev pub undecoded_locate : Bool → UndecodedCall → Option CallKind → Option Version
undecoded_locate here call (Some kind.Locate) = if here then None else Some call.version
undecoded_locate here call (Some kind.Request) = None
undecoded_locate here call None = None

-- the version of the LocateRequest of an entry
abbrev pub locate_in : Bool → ServerEntry → Option Version
locate_in here (LocateAsked q) = Some q.version
locate_in here (Undecoded call) = undecoded_locate here call call.expects
locate_in here _ = None

-- of the LocateRequest under an id
abbrev pub locate_of : Bool → Option ServerEntry → Option Version
locate_of here None = None
locate_of here (Some entry) = locate_in here entry

-- the LocateReply to a LocateRequest: OBJECT_HERE or UNKNOWN_OBJECT, and nothing behind it
abbrev pub located : Version → Order → ℕ → Bool → Msg
located version order id here =
    message_of version message.LocateReply order false
    ((locate_reply version).written
    (record {
      head = record { version = version; id = id; status = if here then 1 else 0 };
      rest = [];
    })
    (joined_into order)).octets

-- it is sent, where one is waited for, and the id is in range; else the table refuses it
abbrev pub IsLocateAnswer : ℕ → Bool → Order → Option Version → Planned ServerEvent → Type 0
IsLocateAnswer id here order None planned = planned ≡ silently (event.AnswerLocate here)
IsLocateAnswer id here order (Some version) planned =
    (id < 2 ^ 32) × (planned ≡ sends_one (event.AnswerLocate here) (located version order id here))

-- a server's own program does something to the call of an id: it is refused for this, or else an
-- event that is planned so acts on the call
abbrev pub ServerPuts : ℕ → Option CallFault → (Planned ServerEvent → Type 0)
    → Held ServerRule ServerEntry → List ℕ → Result (Unit {0}) SessionFault
    → Held ServerRule ServerEntry → List ℕ → Type 0
ServerPuts = Puts (rules_of server_step is_closed is_gathering) in_call

-- a Request is answered
abbrev pub PutsAnswer : Interface → Limits → Reply → Form
    → Held ServerRule ServerEntry → List ℕ → Result (Unit {0}) SessionFault
    → Held ServerRule ServerEntry → List ℕ → Type 0
PutsAnswer interface limits answer form h =
    ServerPuts answer.id
    (answer_fault interface limits (question_of (entry_at h answer.id)) answer form)
    (IsAnswer interface (question_of (entry_at h answer.id)) answer form) h

-- a LocateRequest is answered
abbrev pub PutsLocateAnswer : ℕ → Bool → Order
    → Held ServerRule ServerEntry → List ℕ → Result (Unit {0}) SessionFault
    → Held ServerRule ServerEntry → List ℕ → Type 0
PutsLocateAnswer id here order h =
    ServerPuts id None (IsLocateAnswer id here order (locate_of here (entry_at h id))) h
