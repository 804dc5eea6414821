-- Texts of the lines of `trace`.
use Rattle.std.proofs.Common.{◌≡◌, ℕ, false, List, Option, Some, Ok, refl}
use Rattle.giop_tracing.specs.declared.trace.call_line.Unanswered.{Unanswered}
use Rattle.giop_types.specs.declared.interfaces.interface.Interface.{Interface}
use Rattle.giop_json.specs.declared.number_form.NumberForm.{NumberForm}
use Rattle.giop_msg.specs.declared.messages.completion.Completion.{Completion}
use Rattle.giop_msg.specs.declared.messages.reply_body.ReplyBody.{ReplyBody}
use Rattle.giop_msg.specs.declared.messages.reply_body.ReplyBody.TheVariants.{NoException, UserException, SystemException, Forward, ForwardPerm, NeedsAddressing}
use Rattle.giop_msg.specs.declared.messages.request.Request.{Request}
use Rattle.giop_tracing.specs.Trace.Json.{body_json, result_json}
use Rattle.giop_tracing.specs.Trace.Lines.{call_text, parts_text, result_text}
use Rattle.giop_tracing.specs.Trace.Calls.{answered_reply}
use Rattle.giop_msg.specs.declared.kind.Kind.TheVariants as kind
use Rattle.giop_msg.specs.Joined.{joined_from}
use Rattle.giop_msg.specs.Messages.Reply.{reply}
use Rattle.giop_msg.specs.Messages.RequestAnswer.{request_of_joined}
use Rattle.giop_tracing.specs.declared.trace.answered.Answered.TheVariants as answered
use Rattle.giop_tracing.specs.declared.trace.asked.Asked.TheVariants as asked
use Rattle.giop_msg.specs.declared.messages.reply.Reply.{Reply}
use Rattle.giop_msg.specs.declared.msg.Msg.{Msg}
use Rattle.giop_trace.specs.declared.flow.Flow.{Flow}
use Rattle.giop_types.specs.Values.Tree.{Tree}

-- what a Reply says that brings no system exception is what it brought
pub body_brought : (numbers : NumberForm) (interface : Interface) (request : Request) (body : ReplyBody)
    → ((id : List ℕ) (minor : ℕ) (completed : Completion) → body ≡ SystemException id minor completed → ⊥)
    → body_json numbers interface (Some request) body ≡ result_json numbers interface body (Some request)
body_brought numbers interface request (NoException outs) other = refl
body_brought numbers interface request (UserException id members) other = refl
body_brought numbers interface request (SystemException id minor completed) other = absurd (other id minor completed refl)
body_brought numbers interface request (Forward ior) other = refl
body_brought numbers interface request (ForwardPerm ior) other = refl
body_brought numbers interface request (NeedsAddressing disposition) other = refl

-- a call that brought its outs
pub result_parts : (numbers : NumberForm) (interface : Interface) (id : Option ℕ) (flow : Flow) (unanswered : Unanswered) (request : Request) (m : Msg)
    (reply : Reply) (outs : List Tree) → flow.answer ≡ Some m → reply.body ≡ NoException outs
    → parts_text numbers interface id flow unanswered (asked.Request request) (Some (answered.Reply reply))
    ≡ result_text numbers interface id request outs
result_parts numbers interface id flow unanswered request m reply outs came brought = rw (came, brought) refl

-- a call whose Request and Reply are whole, and whose Request is decoded
pub usual_call : (numbers : NumberForm) (interface : Interface) (id : Option ℕ) (flow : Flow) (unanswered : Unanswered) (one other : Msg)
    (request : Request) → flow.asked ≡ Some one → flow.answer ≡ Some other → one.kind ≡ kind.Request → one.more ≡ false
    → other.kind ≡ kind.Reply → other.more ≡ false → request_of_joined interface one.version one.order one.payload ≡ Ok request
    → call_text numbers interface id flow unanswered
    ≡ parts_text numbers interface id flow unanswered (asked.Request request) (Some (answered_reply other
    ((reply interface (Some request) other.version).read (joined_from other.order other.payload))))
unfolding call_text
usual_call numbers interface id flow unanswered one other request came answered requested whole replied ended decoded =
    rw (came, answered, requested, whole, decoded, replied, ended) refl
