-- The JSON line of a call that `trace` tells, without its newline (docs/FORMATS.md, "Lines of
-- trace").
use Rattle.std.specs.Prelude.{ℕ, List, [], ◌++◌, Option, Some, None, codes, if◌then◌else◌}
use Rattle.std.specs.Fmt.{decimal}
use Rattle.giop_cdr.specs.declared.fault.CdrFault.{CdrFault}
use Rattle.giop_types.specs.declared.interfaces.interface.Interface.{Interface}
use Rattle.giop_json.specs.declared.number_form.NumberForm.{NumberForm}
use Rattle.giop_msg.specs.declared.messages.reply_body.ReplyBody.{ReplyBody}
use Rattle.giop_msg.specs.declared.messages.reply_body.ReplyBody.TheVariants.{SystemException}
use Rattle.giop_msg.specs.declared.messages.request.Request.{Request}
use Rattle.giop_msg.specs.declared.messages.request_fault.RequestFault.{RequestFault}
use Rattle.giop_msg.specs.declared.msg.Msg.{Msg}
use Rattle.giop_msg.specs.Kind.{kind_name}
use Rattle.giop_msg.specs.Locate.{AnyLocateRequest}
use Rattle.giop_trace.specs.declared.flow.Flow.{Flow}
use Rattle.giop_trace.specs.Flows.{is_answer}
use Rattle.giop_lines.specs.JsonLines.{cdr_fault_json, hex_json, id_json, request_fault_json, target_json, text_json}
use Rattle.giop_call_lines.specs.SessionJson.{outcome_json}
use Rattle.giop_forms.specs.declared.line_form.LineForm.{LineForm}
use Rattle.giop_forms.specs.declared.line_form.LineForm.TheVariants as form
use Rattle.giop_tracing.specs.declared.trace.answered.Answered.{Answered}
use Rattle.giop_tracing.specs.declared.trace.answered.Answered.TheVariants as answered
use Rattle.giop_tracing.specs.declared.trace.asked.Asked.{Asked}
use Rattle.giop_tracing.specs.declared.trace.asked.Asked.TheVariants as asked
use Rattle.giop_tracing.specs.declared.trace.call_line.Told.{Told}
use Rattle.giop_tracing.specs.declared.trace.call_line.Unanswered.{Unanswered}
use Rattle.giop_tracing.specs.declared.trace.call_line.Unanswered.TheVariants.{Oneway, NoAnswer, Untold}
use Rattle.giop_show.specs.Bodies.{brought_by, request_ins}
use Rattle.giop_tracing.specs.Trace.Calls.{answered_of, asked_of, is_call, request_in}
use Rattle.giop_tracing.specs.Trace.Lines.{call_text, came_text, told_text}

-- nothing, and an object that says what it is
abbrev pub null_json : List ℕ
null_json = codes "null"

abbrev pub what_json : List ℕ → List ℕ
what_json what = codes "{\"what\":\"" ++ (what ++ codes "\"}")

-- a message that isn't decoded: what it is, its kind and its joined octets
abbrev pub message_json : List ℕ → Msg → List ℕ
message_json what m =
    codes "{\"what\":\"" ++ (what ++ (codes "\",\"message\":\"" ++ (kind_name m.kind ++
    (codes "\",\"octets\":" ++ (hex_json m.payload ++ codes "}")))))

-- ---- what was asked

-- a Request of the interface
abbrev pub request_json : NumberForm → Interface → Request → List ℕ
request_json numbers interface request =
    codes "{\"what\":\"request\"," ++ (target_json request.head.target ++
    (codes ",\"operation\":" ++ (text_json request.head.operation ++ (codes ",\"ins\":" ++
    (request_ins numbers interface request ++ codes "}")))))

-- a LocateRequest
abbrev pub locate_json : AnyLocateRequest → List ℕ
locate_json request =
    codes "{\"what\":\"locate\"," ++ (target_json request.target ++ codes "}")

-- one that can't be decoded
abbrev pub undecoded_json : RequestFault → Msg → List ℕ
undecoded_json e m =
    codes "{\"what\":\"undecoded\"," ++ (request_fault_json e ++ (codes ",\"octets\":" ++
    (hex_json m.payload ++ codes "}")))

-- that no one asked for an answer; nothing of a message of the server that has no place in a call
abbrev pub unasked_json : Option Msg → List ℕ
unasked_json None = null_json
unasked_json (Some m) = if is_answer m.kind then what_json (codes "nothing") else null_json

-- the message that began a call in this text, or that none did
abbrev pub begun_json : (Msg → List ℕ) → Option Msg → Option Msg → List ℕ
begun_json text (Some m) answer = text m
begun_json text None answer = unasked_json answer

-- what was asked, by what the message that began the call is
abbrev pub asked_json : NumberForm → Interface → Flow → Asked → List ℕ
asked_json numbers interface flow (asked.Request request) = request_json numbers interface request
asked_json numbers interface flow (asked.Locate request) = locate_json request
asked_json numbers interface flow (asked.Undecoded e) =
    begun_json (undecoded_json e) flow.asked flow.answer
asked_json numbers interface flow asked.Pieces =
    begun_json (message_json (codes "unfinished")) flow.asked flow.answer
asked_json numbers interface flow asked.Nothing =
    begun_json (message_json (codes "other")) flow.asked flow.answer
asked_json numbers interface flow asked.Other =
    begun_json (message_json (codes "other")) flow.asked flow.answer

-- ---- what it came to

-- what a Reply says, with the text of what it brought
abbrev pub done_json : ReplyBody → List ℕ → List ℕ
done_json body brought = codes "{\"what\":" ++ (outcome_json body brought ++ codes "}")

-- what a Reply says to a Request that was decoded
abbrev pub result_json : NumberForm → Interface → ReplyBody → Option Request → List ℕ
result_json numbers interface body None = null_json
result_json numbers interface body (Some request) =
    done_json body (brought_by numbers interface request body)

-- what a Reply says; a system exception is told whatever was asked
abbrev pub body_json : NumberForm → Interface → Option Request → ReplyBody → List ℕ
body_json numbers interface request (SystemException id minor completed) =
    done_json (SystemException id minor completed) []
body_json numbers interface request body = result_json numbers interface body request

-- the user exception that an undecoded Reply names
abbrev pub named_json : Option (List ℕ) → List ℕ
named_json None = []
named_json (Some id) = codes ",\"exception\":" ++ text_json id

-- a Reply that can't be decoded
abbrev pub undecoded_reply_json : CdrFault → Option (List ℕ) → Msg → List ℕ
undecoded_reply_json e exception m =
    codes "{\"what\":\"undecoded\",\"fault\":" ++ (cdr_fault_json e ++ (named_json exception ++
    (codes ",\"octets\":" ++ (hex_json m.payload ++ codes "}"))))

-- a LocateReply
abbrev pub located_json : ℕ → List ℕ
located_json status = codes "{\"what\":\"located\",\"status\":" ++ (decimal status ++ codes "}")

-- an answer
abbrev pub answer_json : NumberForm → Interface → Option Request → Msg → Answered → List ℕ
answer_json numbers interface request m answered.Pieces = message_json (codes "unfinished") m
answer_json numbers interface request m (answered.Reply reply) =
    body_json numbers interface request reply.body
answer_json numbers interface request m (answered.Located status) = located_json status
answer_json numbers interface request m (answered.Undecoded e exception) =
    undecoded_reply_json e exception m
answer_json numbers interface request m answered.Other = message_json (codes "other") m

-- a call without an answer
abbrev pub unanswered_json : Unanswered → List ℕ
unanswered_json Oneway = what_json (codes "oneway")
unanswered_json NoAnswer = what_json (codes "no_answer")
unanswered_json Untold = null_json

-- that a call has no answer, or that it was cancelled; nothing where no call was begun
abbrev pub open_json : Unanswered → Flow → Asked → List ℕ
open_json unanswered flow asked = if is_call asked
    then if flow.cancelled then what_json (codes "cancelled") else unanswered_json unanswered
    else null_json

-- ---- the line

-- what a call came to
abbrev pub outcome_of : NumberForm → Interface → Flow → Unanswered → Asked → Option Answered
    → List ℕ
outcome_of numbers interface flow unanswered asked answered =
    came_text (answer_json numbers interface (request_in asked))
    (open_json unanswered flow asked) flow.answer answered

-- a call whose messages are these
unfoldable pub parts_json : NumberForm → Interface → Option ℕ → Flow → Unanswered → Asked
    → Option Answered → List ℕ
parts_json numbers interface id flow unanswered asked answered =
    codes "{\"id\":" ++ (id_json id ++ (codes ",\"asked\":" ++
    (asked_json numbers interface flow asked ++ (codes ",\"outcome\":" ++
    (outcome_of numbers interface flow unanswered asked answered ++ codes "}")))))

-- what is told of a call
abbrev pub told_json : Interface → Told → List ℕ
told_json interface told =
    parts_json told.numbers interface told.id told.flow.now told.unanswered told.asked.now
    told.answered.now

-- a call, decoded by an interface
unfoldable pub call_json : NumberForm → Interface → Option ℕ → Flow → Unanswered → List ℕ
call_json numbers interface id flow unanswered =
    parts_json numbers interface id flow unanswered (asked_of interface flow.asked)
    (answered_of interface (request_in (asked_of interface flow.asked)) flow.answer)

-- a call, in a form
abbrev pub call_line : LineForm → Interface → Option ℕ → Flow → Unanswered → List ℕ
call_line (form.Text numbers) = call_text numbers
call_line (form.Json numbers) = call_json numbers

-- what is told of a call, in a form
abbrev pub told_line : LineForm → Interface → Told → List ℕ
told_line (form.Text numbers) = told_text
told_line (form.Json numbers) = told_json
