-- Texts of the lines of `trace`.
use Rattle.std.proofs.Common.{◌≡◌, ℕ, Bool, List, ◌++◌, Option, Some, codes, refl}
use Rattle.std.specs.Io.KnownBytes.{Appends}
use Rattle.giop_trace.specs.declared.heard.Heard.{Heard}
use Rattle.giop_show.specs.declared.form.LineForm.{LineForm}
use Rattle.giop_show.specs.declared.trace.call_line.Unanswered.{Unanswered}
use Rattle.giop_show.specs.TracedText.{flow_line, heard_lines, over_as, still_open}
use Rattle.giop_show.proofs.DumpLemmas.{Appends-append}
use Rattle.giop_types.specs.declared.json.interface.Interface.{Interface}
use Rattle.giop_types.specs.declared.json.number_form.NumberForm.{NumberForm}
use Rattle.giop_msg.specs.declared.messages.completion.Completion.{Completion}
use Rattle.giop_msg.specs.declared.messages.reply_body.ReplyBody.{ReplyBody}
use Rattle.giop_msg.specs.declared.messages.reply_body.ReplyBody.TheVariants.{NoException, UserException, SystemException, Forward, ForwardPerm, NeedsAddressing}
use Rattle.giop_msg.specs.declared.messages.request.Request.{Request}
use Rattle.giop_show.specs.TracedJson.{body_json, result_json}
use Rattle.giop_show.specs.TracedLines.{parts_text, request_text}
use Rattle.giop_show.specs.Bodies.{brought_by}
use Rattle.giop_show.specs.declared.trace.answered.Answered.TheVariants as answered
use Rattle.giop_show.specs.declared.trace.asked.Asked.TheVariants as asked
use Rattle.giop_lines.specs.TraceLines.{call_id_text}
use Rattle.giop_msg.specs.declared.messages.reply.Reply.{Reply}
use Rattle.giop_msg.specs.declared.msg.Msg.{Msg}
use Rattle.giop_trace.specs.declared.flow.Flow.{Flow}
use Rattle.giop_types.specs.Values.Tree.{Tree}

-- what a Reply says that brings no system exception is what it brought
pub body_brought : (numbers : NumberForm) (interface : Interface) (request : Request) (body : ReplyBody)
    → ((id : List ℕ) (minor : ℕ) (completed : Completion) → body ≡ SystemException id minor completed → ⊥)
    → body_json numbers interface (Some request) body ≡ result_json numbers interface body (Some request)
body_brought numbers interface request (NoException outs) other = refl
body_brought numbers interface request (UserException id members) other = refl
body_brought numbers interface request (SystemException id minor completed) other = absurd (other id minor completed refl)
body_brought numbers interface request (Forward ior) other = refl
body_brought numbers interface request (ForwardPerm ior) other = refl
body_brought numbers interface request (NeedsAddressing disposition) other = refl

-- the lines of the calls that are over by a message, one behind the other
pub told_lines : (form : LineForm) (interface : Interface) (alone : Bool) (told : Heard) (waits over : Unanswered) (a b c : Option (List ℕ))
    → waits ≡ still_open alone → over ≡ over_as alone told.id
    → Appends a b (flow_line form interface told.id waits told.earlier) → Appends b c (flow_line form interface told.id over told.over)
    → Appends a c (heard_lines form interface alone told)
told_lines form interface alone told waits over a b c still end first second =
    Appends-append a b c (flow_line form interface told.id (still_open alone) told.earlier) (flow_line form interface told.id (over_as alone told.id) told.over)
    (rw still at first) (rw end at second)

-- a call that brought its outs
pub result_parts : (numbers : NumberForm) (interface : Interface) (id : Option ℕ) (flow : Flow) (unanswered : Unanswered) (request : Request) (m : Msg)
    (reply : Reply) (outs : List Tree) → flow.answer ≡ Some m → reply.body ≡ NoException outs
    → parts_text numbers interface id flow unanswered (asked.Request request) (Some (answered.Reply reply))
    ≡ call_id_text id ++ (request_text numbers interface request ++ (codes " Done 0 " ++ brought_by numbers interface request reply.body))
result_parts numbers interface id flow unanswered request m reply outs came brought = rw (came, brought) refl
