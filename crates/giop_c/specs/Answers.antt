-- What the program of a server answers to a Request by C, and what C is told of it.
use Rattle.std.specs.Prelude.{◌≡◌, ◌⊎◌, ℕ, List, [], Result, Ok, Err}
use Rattle.std_alloc.specs.Arc.{arc_value}
use Rattle.giop_cdr.specs.declared.fault.CdrFault.{CdrFault}
use Rattle.giop_cdr.specs.declared.fault.CdrKind.{CdrKind}
use Rattle.giop_cdr.specs.declared.fault.CdrKind.TheVariants as cdr
use Rattle.giop_cdr.specs.declared.order.Order.{Order}
use Rattle.giop_cdr.specs.Ending.{ended}
use Rattle.giop_cdr.specs.Faults.{cdr_kind_number}
use Rattle.giop_types.specs.declared.json.parameters.Parameter.{Parameter}
use Rattle.giop_types.specs.Values.Tree.{Tree}
use Rattle.giop_msg.specs.declared.messages.completion.Completion.{Completion}
use Rattle.giop_msg.specs.declared.messages.reply.Reply.{Reply}
use Rattle.giop_msg.specs.declared.messages.reply_body.ReplyBody.{ReplyBody}
use Rattle.giop_msg.specs.declared.messages.reply_body.ReplyBody.TheVariants.{NoException, SystemException, UserException}
use Rattle.giop_msg.specs.Messages.Body.{values}
use Rattle.giop_msg.specs.Messages.Reply.{exception_of, listed, outs_for}
use Rattle.giop_session.specs.declared.acts.form.Form.{Form}
use Rattle.giop_session.specs.declared.session_fault.SessionFault.{SessionFault}
use Rattle.giop_session.specs.declared.session_fault.SessionFault.TheVariants as session
use Rattle.giop_session.specs.Acts.Form.{IsForm}
use Rattle.giop_session.specs.Acts.ServerAnswers.{IsAnswer, answer_fault, question_of}
use Rattle.giop_session.specs.Runs.ServerRuns.{server_entry}
use Rattle.giop_c.specs.declared.end_records.EndFault.{EndFault}
use Rattle.giop_c.specs.declared.end_records.SendForm.{SendForm}
use Rattle.giop_c.specs.declared.server.answers.AnswerFault.{AnswerFault}
use Rattle.giop_c.specs.declared.server.answers.AnswerFault.TheVariants as refused
use Rattle.giop_c.specs.declared.server.served.Served.{Served}
use Rattle.giop_c.specs.Calls.{ok, no_memory, fault}
use Rattle.giop_c.specs.EndRecords.{c_end_fault, c_order_of, end_status}
use Rattle.giop_c.specs.Entries.{request_of, version_asked}
use Rattle.giop_c.specs.Ends.{PutsAtServer}
use Rattle.giop_c.specs.Values.{begun}

-- the form that C says
abbrev pub form_of : SendForm → Form
form_of form = record { order = c_order_of form.little_endian; piece = form.piece }

-- the fault of an answer, as C sees it: that of the end; 11, where octets are no values; 12, where
-- messages can't be cut so
abbrev pub c_answer_fault : AnswerFault → EndFault
c_answer_fault (refused.End why) = c_end_fault why
c_answer_fault (refused.Values e) =
    record { at = e.at; number = 11; part = cdr_kind_number e.kind; id = 0 }
c_answer_fault refused.Form = record { at = 0; number = 12; part = 0; id = 0 }

-- its status
abbrev pub values_status : CdrKind → ℕ
values_status cdr.NoMemory = no_memory
values_status _ = fault

abbrev pub answer_status : AnswerFault → ℕ
answer_status (refused.End why) = end_status why
answer_status (refused.Values e) = values_status e.kind
answer_status refused.Form = fault

-- C is told so
abbrev pub IsAnswered : Result (Unit {0}) AnswerFault → EndFault → EndFault → ℕ → Type 0
IsAnswered (Ok done) f f' status = (status ≡ ok) × (f' ≡ f)
IsAnswered (Err why) f f' status = (status ≡ answer_status why) × (f' ≡ c_answer_fault why)

abbrev pub TellsAnswer : (Result (Unit {0}) AnswerFault → Type 0) → EndFault → EndFault → ℕ
    → Type 0
TellsAnswer Does f f' status =
    (answer : Result (Unit {0}) AnswerFault) × Does answer × IsAnswered answer f f' status

-- what an end answers
abbrev pub of_end : Result (Unit {0}) SessionFault → Result (Unit {0}) AnswerFault
of_end (Ok done) = Ok tt
of_end (Err why) = Err (refused.End why)

-- the Reply to the call of an id: in its version, without contexts
abbrev pub reply_of : Served → ℕ → ReplyBody → Reply
reply_of old id body = record {
  version = version_asked (server_entry old.end.calls id);
  id = id;
  contexts = [];
  body = body;
}

-- the call of an id is answered so
abbrev pub Replies : ℕ → ReplyBody → Form → Served → Result (Unit {0}) SessionFault → Served
    → Type 0
Replies id body form old answer new =
    PutsAtServer id
    (answer_fault (arc_value old.interface) old.end.limits
    (question_of (server_entry old.end.calls id)) (reply_of old id body) form)
    (IsAnswer (arc_value old.interface) (question_of (server_entry old.end.calls id))
    (reply_of old id body) form)
    old answer new

-- so, or memory ran out before it
abbrev pub RepliesOrNot : ℕ → ReplyBody → Form → Served → Result (Unit {0}) AnswerFault → Served
    → Type 0
RepliesOrNot id body form old answer new =
    ((answer ≡ Err (refused.End session.NoMemory)) × (new ≡ old))
    ⊎ ((told : Result (Unit {0}) SessionFault) × (answer ≡ of_end told)
    × Replies id body form old told new)

-- pieces of this size are refused; or it is done
abbrev pub InForm : Form → Served → Result (Unit {0}) AnswerFault → Served → Type 0 → Type 0
InForm form old answer new Done =
    ((answer ≡ Err refused.Form) × (IsForm form → ⊥) × (new ≡ old)) ⊎ (IsForm form × Done)

-- the octets of the values of these parameters are refused; or memory ran out; or they are read, and
-- the call is answered by them
abbrev pub Reads : List Parameter → Order → List ℕ → (List Tree → ReplyBody) → ℕ → Form → Served
    → Result (Unit {0}) AnswerFault → Served → Type 0
Reads parameters order octets body id form old answer new =
    ((e : CdrFault) × (answer ≡ Err (refused.Values e)) × (new ≡ old)
    × (((ended (values parameters)).read (begun order octets) ≡ Err e)
    ⊎ (e.kind ≡ cdr.NoMemory)))
    ⊎ ((trees : List Tree)
    × ((ended (values parameters)).read (begun order octets) ≡ Ok trees)
    × RepliesOrNot id (body trees) form old answer new)

-- without an exception: by the outs of its operation
abbrev pub AnswersOuts : ℕ → Order → List ℕ → Form → Served → Result (Unit {0}) AnswerFault → Served
    → Type 0
AnswersOuts id order octets form old answer new =
    InForm form old answer new
    (Reads (outs_for (arc_value old.interface) (request_of (server_entry old.end.calls id)))
    order octets (λ outs. NoException outs) id form old answer new)

-- by an exception of the interface: its members
abbrev pub AnswersUser : ℕ → List ℕ → Order → List ℕ → Form → Served
    → Result (Unit {0}) AnswerFault → Served → Type 0
AnswersUser id exception order octets form old answer new =
    InForm form old answer new
    (Reads (listed (exception_of (arc_value old.interface) exception))
    order octets (λ members. UserException exception members) id form old answer new)

-- by an exception of the broker
abbrev pub AnswersSystem : ℕ → List ℕ → ℕ → Completion → Form → Served
    → Result (Unit {0}) AnswerFault → Served → Type 0
AnswersSystem id exception minor completion form old answer new =
    InForm form old answer new
    (RepliesOrNot id (SystemException exception minor completion) form old answer new)
