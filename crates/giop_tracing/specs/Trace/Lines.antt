-- The line of a call that `trace` tells: its id, what was asked, and what it came to.
use Rattle.std.specs.Prelude.{ℕ, List, [], ◌++◌, Option, Some, None, codes, if◌then◌else◌}
use Rattle.std.specs.Fmt.{decimal}
use Rattle.giop_cdr.specs.declared.fault.CdrFault.{CdrFault}
use Rattle.giop_types.specs.declared.interfaces.interface.Interface.{Interface}
use Rattle.giop_json.specs.declared.number_form.NumberForm.{NumberForm}
use Rattle.giop_types.specs.declared.interfaces.parameters.Parameter.{Parameter}
use Rattle.giop_json.specs.ValuesText.{values_text}
use Rattle.giop_types.specs.Values.Tree.{Tree}
use Rattle.giop_msg.specs.declared.messages.completion.Completion.{Completion}
use Rattle.giop_msg.specs.declared.messages.reply_body.ReplyBody.{ReplyBody}
use Rattle.giop_msg.specs.declared.messages.reply_body.ReplyBody.TheVariants.{NoException, SystemException}
use Rattle.giop_msg.specs.declared.messages.request.Request.{Request}
use Rattle.giop_msg.specs.declared.messages.request_fault.RequestFault.{RequestFault}
use Rattle.giop_msg.specs.declared.msg.Msg.{Msg}
use Rattle.giop_msg.specs.Kind.{kind_name}
use Rattle.giop_trace.specs.declared.flow.Flow.{Flow}
use Rattle.giop_trace.specs.Flows.{is_answer}
use Rattle.giop_lines.specs.Lines.{cdr_fault_text, target_text}
use Rattle.giop_lines.specs.Octets.{escaped_text, hex_text}
use Rattle.giop_call_lines.specs.TableLines.{asked_text as operation_text, completion_text, reply_text}
use Rattle.giop_lines.specs.BodyLines.{request_fault_text}
use Rattle.giop_lines.specs.TraceLines.{call_id_text, minor_text}
use Rattle.giop_tracing.specs.declared.trace.answered.Answered.{Answered}
use Rattle.giop_tracing.specs.declared.trace.answered.Answered.TheVariants as answered
use Rattle.giop_tracing.specs.declared.trace.asked.Asked.{Asked}
use Rattle.giop_tracing.specs.declared.trace.asked.Asked.TheVariants as asked
use Rattle.giop_tracing.specs.declared.trace.call_line.Told.{Told}
use Rattle.giop_tracing.specs.declared.trace.call_line.Unanswered.{Unanswered}
use Rattle.giop_tracing.specs.declared.trace.call_line.Unanswered.TheVariants.{Oneway, NoAnswer, Untold}
use Rattle.giop_show.specs.Bodies.{brought_by, request_ins}
use Rattle.giop_show.specs.Forms.{ended}
use Rattle.giop_tracing.specs.Trace.Calls.{answered_of, asked_of, is_call, replied, request_in}

-- a message that isn't decoded: what it is, its kind and its joined octets
abbrev pub message_text : List ℕ → Msg → List ℕ
message_text what m =
    codes " " ++ (what ++ (codes " " ++ (kind_name m.kind ++ (codes " " ++ hex_text m.payload))))

-- ---- what was asked

-- a Request of the interface: Asked TARGET OPERATION INS
abbrev pub request_text : NumberForm → Interface → Request → List ℕ
request_text numbers interface request =
    codes " Asked " ++ (target_text request.head.target ++ (codes " " ++
    operation_text request (request_ins numbers interface request)))

-- one that can't be decoded: Undecoded FAULT OCTETS
abbrev pub undecoded_text : RequestFault → Msg → List ℕ
undecoded_text e m =
    codes " Undecoded " ++ (request_fault_text e ++ (codes " " ++ hex_text m.payload))

-- that no one asked for an answer
abbrev pub unasked_text : Option Msg → List ℕ
unasked_text None = []
unasked_text (Some m) = if is_answer m.kind then codes " Unasked" else []

-- the message that began a call in this text, or that none did
abbrev pub begun_text : (Msg → List ℕ) → Option Msg → Option Msg → List ℕ
begun_text text (Some m) answer = text m
begun_text text None answer = unasked_text answer

-- what was asked, by what the message that began the call is
abbrev pub asked_text : NumberForm → Interface → Flow → Asked → List ℕ
asked_text numbers interface flow (asked.Request request) = request_text numbers interface request
asked_text numbers interface flow (asked.Locate request) =
    codes " LocateAsked " ++ target_text request.target
asked_text numbers interface flow (asked.Undecoded e) =
    begun_text (undecoded_text e) flow.asked flow.answer
asked_text numbers interface flow asked.Pieces =
    begun_text (message_text (codes "Unfinished")) flow.asked flow.answer
asked_text numbers interface flow asked.Nothing =
    begun_text (message_text (codes "Client")) flow.asked flow.answer
asked_text numbers interface flow asked.Other =
    begun_text (message_text (codes "Client")) flow.asked flow.answer

-- ---- what it came to

-- a system exception: Done 2 EXCEPTION MINOR 0xHEX COMPLETION
abbrev pub exception_text : List ℕ → ℕ → Completion → List ℕ
exception_text id minor completed =
    codes " Done 2 " ++ (escaped_text id ++ (codes " " ++ (minor_text minor ++
    (codes " " ++ completion_text completed))))

-- what a Reply says to a Request that was decoded: Done STATUS, and what it brought
abbrev pub done_text : NumberForm → Interface → ReplyBody → Option Request → List ℕ
done_text numbers interface body None = []
done_text numbers interface body (Some request) =
    codes " Done " ++ reply_text body (brought_by numbers interface request body)

-- what a Reply says; a system exception is told whatever was asked
abbrev pub body_text : NumberForm → Interface → Option Request → ReplyBody → List ℕ
body_text numbers interface request (SystemException id minor completed) =
    exception_text id minor completed
body_text numbers interface request body = done_text numbers interface body request

-- the user exception that an undecoded Reply names
abbrev pub named_text : Option (List ℕ) → List ℕ
named_text None = []
named_text (Some id) = codes " exception " ++ escaped_text id

-- a Reply that can't be decoded: Undecoded reply FAULT[ exception EXCEPTION] OCTETS
abbrev pub undecoded_reply_text : CdrFault → Option (List ℕ) → Msg → List ℕ
undecoded_reply_text e exception m =
    codes " Undecoded reply " ++ (cdr_fault_text e ++ (named_text exception ++
    (codes " " ++ hex_text m.payload)))

-- an answer
abbrev pub answer_text : NumberForm → Interface → Option Request → Msg → Answered → List ℕ
answer_text numbers interface request m answered.Pieces = message_text (codes "Unfinished") m
answer_text numbers interface request m (answered.Reply reply) =
    body_text numbers interface request reply.body
answer_text numbers interface request m (answered.Located status) =
    codes " LocateDone " ++ decimal status
answer_text numbers interface request m (answered.Undecoded e exception) =
    undecoded_reply_text e exception m
answer_text numbers interface request m answered.Other = message_text (codes "Server") m

-- a call without an answer
abbrev pub unanswered_text : Unanswered → List ℕ
unanswered_text Oneway = codes " OnewaySent"
unanswered_text NoAnswer = codes " NoAnswer"
unanswered_text Untold = []

-- that a call has no answer, or that it was cancelled; nothing where no call was begun
abbrev pub open_text : Unanswered → Flow → Asked → List ℕ
open_text unanswered flow asked = if is_call asked
    then if flow.cancelled then codes " Cancelled" else unanswered_text unanswered
    else []

-- what a call came to: by its answer, or else this
abbrev pub came_text : (Msg → Answered → List ℕ) → List ℕ → Option Msg → Option Answered → List ℕ
came_text answer none None answered = none
came_text answer none (Some m) None = none
came_text answer none (Some m) (Some answered) = answer m answered

-- ---- the line

-- the ins of a call and its outs, each list by its parameters: INS Done 0 OUTS
abbrev pub both_lists : NumberForm → List Parameter → List Tree → List Parameter → List Tree → List ℕ
both_lists numbers of_ins ins of_outs outs =
    values_text numbers of_ins ins ++ (codes " Done 0 " ++ values_text numbers of_outs outs)

-- a Request that brought its outs: Asked TARGET OPERATION INS Done 0 OUTS
abbrev pub request_result : NumberForm → Interface → Request → List Tree → List ℕ
request_result numbers interface request outs =
    request_text numbers interface request ++
    (codes " Done 0 " ++ brought_by numbers interface request (NoException outs))

-- a call that did: ID, and that
abbrev pub result_text : NumberForm → Interface → Option ℕ → Request → List Tree → List ℕ
result_text numbers interface id request outs =
    call_id_text id ++ request_result numbers interface request outs

-- a call whose messages are these
abbrev pub parts_text : NumberForm → Interface → Option ℕ → Flow → Unanswered → Asked
    → Option Answered → List ℕ
parts_text numbers interface id flow unanswered asked answered =
    call_id_text id ++ (asked_text numbers interface flow asked ++
    came_text (answer_text numbers interface (request_in asked))
    (open_text unanswered flow asked) flow.answer answered)

-- what is told of a call
abbrev pub told_text : Interface → Told → List ℕ
told_text interface told =
    parts_text told.numbers interface told.id told.flow.now told.unanswered told.asked.now
    told.answered.now

-- the line of a call, by the Reply to its Request that this whole message is
abbrev pub reply_line : NumberForm → Interface → Option ℕ → Flow → Unanswered → Request → Msg
    → List ℕ
reply_line numbers interface id flow unanswered request m =
    ended (parts_text numbers interface id flow unanswered (asked.Request request)
    (Some (replied interface (Some request) m)))

-- a call, decoded by an interface: ID ASKED CAME
unfoldable pub call_text : NumberForm → Interface → Option ℕ → Flow → Unanswered → List ℕ
call_text numbers interface id flow unanswered =
    parts_text numbers interface id flow unanswered (asked_of interface flow.asked)
    (answered_of interface (request_in (asked_of interface flow.asked)) flow.answer)
