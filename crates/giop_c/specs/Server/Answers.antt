-- What the program of a server answers to a Request by C.
use Rattle.std.specs.Prelude.{ℕ, Bool, if◌then◌else◌, List, [], Result}
use Rattle.std_alloc.specs.Arc.{arc_value}
use Rattle.giop_ior.specs.Ior.{Reference}
use Rattle.giop_msg.specs.declared.messages.completion.Completion.{Completion}
use Rattle.giop_msg.specs.declared.messages.reply.Reply.{Reply}
use Rattle.giop_msg.specs.declared.messages.reply_body.ReplyBody.{ReplyBody}
use Rattle.giop_msg.specs.declared.messages.reply_body.ReplyBody.TheVariants.{Forward, ForwardPerm, NoException, SystemException, UserException}
use Rattle.giop_msg.specs.Messages.Reply.{exception_of, listed, outs_for}
use Rattle.giop_end.specs.declared.acts.form.Form.{Form}
use Rattle.giop_end.specs.declared.session_fault.SessionFault.{SessionFault}
use Rattle.giop_end.specs.Acts.ServerAnswers.{IsAnswer, answer_fault, question_of}
use Rattle.giop_table.specs.CallTable.{entry_at}
use Rattle.giop_c.specs.declared.act_fault.ActFault.{ActFault}
use Rattle.giop_c.specs.declared.server.served.Served.{Served}
use Rattle.giop_c.specs.declared.value_form.ValueForm.{ValueForm}
use Rattle.giop_c.specs.Acts.{InForm, OrNot, ReadsReference, ReadsValues}
use Rattle.giop_c.specs.Server.Entries.{request_of, version_asked}
use Rattle.giop_c.specs.Server.Ends.{PutsAtServer}

-- the Reply to the call of an id: in its version, without contexts
abbrev pub reply_of : Served → ℕ → ReplyBody → Reply
reply_of old id body = record {
  version = version_asked (entry_at old.end.calls id);
  id = id;
  contexts = [];
  body = body;
}

-- the call of an id is answered so
abbrev pub Replies : ℕ → ReplyBody → Form → Served → Result (Unit {0}) SessionFault → Served
    → Type 0
Replies id body form old answer new =
    PutsAtServer id
    (answer_fault (arc_value old.interface) old.end.limits
    (question_of (entry_at old.end.calls id)) (reply_of old id body) form)
    (IsAnswer (arc_value old.interface) (question_of (entry_at old.end.calls id))
    (reply_of old id body) form)
    old answer new

-- so, or memory ran out before it
abbrev pub RepliesOrNot : ℕ → ReplyBody → Form → Served → Result (Unit {0}) ActFault → Served
    → Type 0
RepliesOrNot id body form old answer new =
    OrNot (λ told. Replies id body form old told new) old answer new

-- without an exception: by the outs of its operation
abbrev pub AnswersOuts : ℕ → ValueForm → List ℕ → Form → Served → Result (Unit {0}) ActFault
    → Served → Type 0
AnswersOuts id value_form octets form old answer new =
    InForm form old answer new
    (ReadsValues (outs_for (arc_value old.interface) (request_of (entry_at old.end.calls id)))
    value_form octets (λ outs. RepliesOrNot id (NoException outs) form old answer new)
    old answer new)

-- by an exception of the interface: its members
abbrev pub AnswersUser : ℕ → List ℕ → ValueForm → List ℕ → Form → Served
    → Result (Unit {0}) ActFault → Served → Type 0
AnswersUser id exception value_form octets form old answer new =
    InForm form old answer new
    (ReadsValues (listed (exception_of (arc_value old.interface) exception)) value_form octets
    (λ members. RepliesOrNot id (UserException exception members) form old answer new)
    old answer new)

-- by an exception of the broker
abbrev pub AnswersSystem : ℕ → List ℕ → ℕ → Completion → Form → Served
    → Result (Unit {0}) ActFault → Served → Type 0
AnswersSystem id exception minor completion form old answer new =
    InForm form old answer new
    (RepliesOrNot id (SystemException exception minor completion) form old answer new)

-- where the object is (9.4.3.1): for this request, or from now on
abbrev pub forward_to : Bool → Reference → ReplyBody
forward_to permanent ior = if permanent then ForwardPerm ior else Forward ior

-- by a forward to the reference that a text is
abbrev pub AnswersForward : ℕ → List ℕ → Bool → Form → Served → Result (Unit {0}) ActFault → Served
    → Type 0
AnswersForward id text permanent form old answer new =
    InForm form old answer new
    (ReadsReference text
    (λ ior. RepliesOrNot id (forward_to permanent ior) form old answer new) old answer new)
