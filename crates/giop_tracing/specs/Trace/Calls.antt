-- What the messages of a call are that `trace` tells, decoded by an interface (CORBA 3.3 Part 2,
-- 9.4.2, 9.4.3, 9.4.5 and 9.4.6).
use Rattle.std.specs.Prelude.{ℕ, ◌==◌, ◌%◌, ◌-◌, ◌&&◌, Bool, true, false, List, drop, Option, Some, None, Result, Ok, Err, if◌then◌else◌}
use Rattle.giop_cdr.specs.declared.fault.CdrFault.{CdrFault}
use Rattle.giop_cdr.specs.Layout.{text}
use Rattle.giop_cdr.specs.Reading.Cursor.{Cursor}
use Rattle.giop_cdr.specs.Reading.Values.{Reading}
use Rattle.giop_types.specs.declared.interfaces.interface.Interface.{Interface}
use Rattle.giop_msg.specs.declared.kind.Kind.{Kind}
use Rattle.giop_msg.specs.declared.kind.Kind.TheVariants as kind
use Rattle.giop_msg.specs.declared.locate_reply_head.LocateReplyHead.{LocateReplyHead}
use Rattle.giop_msg.specs.declared.messages.reply.Reply.{Reply}
use Rattle.giop_msg.specs.declared.messages.request.Request.{Request}
use Rattle.giop_msg.specs.declared.messages.request_fault.RequestFault.{RequestFault}
use Rattle.giop_msg.specs.declared.messages.request_fault.RequestFault.TheVariants.{Header}
use Rattle.giop_msg.specs.declared.msg.Msg.{Msg}
use Rattle.giop_msg.specs.Joined.{body_place, head_of_joined, joined_from, right_behind, whole_of_joined}
use Rattle.giop_msg.specs.Locate.{AnyLocateRequest, locate_reply_head, locate_request}
use Rattle.giop_msg.specs.Messages.Reply.{reply}
use Rattle.giop_msg.specs.Messages.RequestAnswer.{request_of_joined}
use Rattle.giop_msg.specs.ReplyHead.{AnyReplyHead, reply_head}
use Rattle.giop_trace.specs.Flows.{is_answer}
use Rattle.giop_tracing.specs.declared.trace.answered.Answered.{Answered}
use Rattle.giop_tracing.specs.declared.trace.answered.Answered.TheVariants as answered
use Rattle.giop_tracing.specs.declared.trace.asked.Asked.{Asked}
use Rattle.giop_tracing.specs.declared.trace.asked.Asked.TheVariants as asked

-- ---- what a message of the client is

-- whether a message of the kind asks for something
abbrev pub is_asking : Kind → Bool
is_asking kind.Request = true
is_asking kind.LocateRequest = true
is_asking _ = false

-- a Request, or why it can't be decoded
abbrev pub asked_request : Result Request RequestFault → Asked
asked_request (Ok request) = asked.Request request
asked_request (Err e) = asked.Undecoded e

-- a LocateRequest, or why it can't be decoded
abbrev pub asked_locate : Result AnyLocateRequest CdrFault → Asked
asked_locate (Ok request) = asked.Locate request
asked_locate (Err e) = asked.Undecoded (Header e)

-- a whole message of a kind
abbrev pub asked_whole : Interface → Kind → Msg → Asked
asked_whole interface kind.Request m =
    asked_request (request_of_joined interface m.version m.order m.payload)
asked_whole interface kind.LocateRequest m =
    asked_locate (whole_of_joined (locate_request m.version) m.order m.payload)
asked_whole interface _ m = asked.Other

-- a message, of which pieces may still be to come
abbrev pub asked_by : Interface → Msg → Asked
asked_by interface m =
    if is_asking m.kind && m.more then asked.Pieces else asked_whole interface m.kind m

-- the message that began a call, if one came
abbrev pub asked_of : Interface → Option Msg → Asked
asked_of interface None = asked.Nothing
asked_of interface (Some m) = asked_by interface m

-- the Request, where it was decoded
abbrev pub request_in : Asked → Option Request
request_in (asked.Request request) = Some request
request_in _ = None

-- whether it begins a call
abbrev pub is_call : Asked → Bool
is_call asked.Nothing = false
is_call asked.Other = false
is_call _ = true

-- ---- what a message of the server is

-- where the body of a Reply is read; no number is aligned to more than 8, so where its place stands
-- between two multiples of 8 is enough
abbrev pub body_at : Msg → ℕ → Cursor
body_at m place = record { order = m.order; at = place % 8; rest = drop (place - 12) m.payload }

-- a text that is read
abbrev pub read_text : Reading (List ℕ) → Option (List ℕ)
read_text (Ok x) = Some x.0
read_text (Err e) = None

-- the repository id with which the body of a user exception begins, behind a head
abbrev pub exception_behind : Msg → Result (AnyReplyHead × ℕ) CdrFault → Option (List ℕ)
exception_behind m (Err e) = None
exception_behind m (Ok head) =
    if head.0.status == 1 then read_text (text.read (body_at m head.1)) else None

-- the repository id of a Reply's user exception, where it can be read
abbrev pub exception_of : Msg → Option (List ℕ)
exception_of m = exception_behind m
    (head_of_joined (reply_head m.version) (body_place m.version) m.order m.payload)

-- a Reply, or why it can't be decoded, with the exception that it names all the same
abbrev pub answered_reply : Msg → Result Reply CdrFault → Answered
answered_reply m (Ok reply) = answered.Reply reply
answered_reply m (Err e) = answered.Undecoded e (exception_of m)

-- the Reply to a Request, by the octets of a whole message, or why it can't be decoded
abbrev pub replied : Interface → Option Request → Msg → Answered
replied interface request m = answered_reply m
    ((reply interface request m.version).read (joined_from m.order m.payload))

-- a LocateReply, of which its status is told, or why it can't be decoded
abbrev pub answered_located : Result (LocateReplyHead × ℕ) CdrFault → Answered
answered_located (Ok head) = answered.Located head.0.status
answered_located (Err e) = answered.Undecoded e None

-- a whole message of a kind, by the Request that it answers
abbrev pub answered_whole : Interface → Option Request → Kind → Msg → Answered
answered_whole interface request kind.Reply m = replied interface request m
answered_whole interface request kind.LocateReply m = answered_located
    (head_of_joined (locate_reply_head m.version) right_behind m.order m.payload)
answered_whole interface request _ m = answered.Other

-- a message, of which pieces may still be to come
abbrev pub answered_by : Interface → Option Request → Msg → Answered
answered_by interface request m =
    if is_answer m.kind && m.more then answered.Pieces
    else answered_whole interface request m.kind m

-- the answer of a call, if one came
abbrev pub answered_of : Interface → Option Request → Option Msg → Option Answered
answered_of interface request None = None
answered_of interface request (Some m) = Some (answered_by interface request m)
