-- The parts of a whole message hold, so it does: its numbers are in the ranges of their types.
use Rattle.std.proofs.Common.{◌≡◌, ℕ, Bool, true, false, List, Option, Some, refl, sym}
use Rattle.giop_cdr.specs.Ending.{Ending, ended, from_multiple_of_8, leads, made_of}
use Rattle.giop_types.specs.declared.interfaces.interface.Interface.{Interface}
use Rattle.giop_types.specs.declared.interfaces.interface.Operation.{Operation}
use Rattle.giop_types.specs.declared.interfaces.parameters.Parameter.{Parameter}
use Rattle.giop_types.specs.Values.Tree.{Tree}
use Rattle.giop_ior.specs.declared.references.service_context.ServiceContext.{ServiceContext}
use Rattle.giop_msg.specs.declared.messages.reply.Reply.{Reply}
use Rattle.giop_msg.specs.declared.messages.request.Request.{Request}
use Rattle.giop_msg.specs.declared.version.Version.{Version}
use Rattle.giop_msg.specs.declared.version.Version.TheVariants.{V10, V11, V12}
use Rattle.giop_msg.specs.Messages.Body.{body_of, values}
use Rattle.giop_msg.specs.Messages.Reply.{allowed, may_answer, offer_for, outs_for, reply, reply_body, status_of}
use Rattle.giop_msg.specs.Messages.Request.{operation_asked, request, request_body}
use Rattle.giop_msg.specs.ReplyHead.{reply_head}
use Rattle.giop_msg.specs.RequestHead.{request_head}
use Rattle.giop_msg.proofs.WholeMessages.ReplyWritingLemmas.{answering}

-- the values of a body hold, wherever it stands
body_hold : (version : Version) (parameters : List Parameter) (ts : List Tree) → (body_of version (ended (values parameters))).holds ts
unfolding body_of from_multiple_of_8 ended values
body_hold V10 parameters ts = tt
body_hold V11 parameters ts = tt
body_hold V12 parameters ts = tt

pub request_holds : (interface : Interface) (version : Version) (q : Request) (operation : Operation)
    → Some operation ≡ operation_asked interface q.head
    → (request_head version).holds q.head → (request interface version).holds q
unfolding request leads request_body made_of
request_holds interface version q operation found held =
    (held, rw (sym found) (refl, body_hold version operation.ins.list.items q.body))

allowed_hold : {A : Type 0} (may : Bool) (f : Ending A) (v : A) → may ≡ true → f.holds v → (allowed may f).holds v
unfolding allowed
allowed_hold true f v is held = held
allowed_hold false f v is held = absurd cc

pub reply_holds : (interface : Interface) (asked : Option Request) (version : Version) (r : Reply) (outs : List Parameter) (status : ℕ)
    (contexts : List ServiceContext)
    → (reply interface asked version).fits r ≡ true → outs ≡ outs_for interface asked → status ≡ status_of r.body → contexts ≡ r.contexts
    → (reply_head version).holds (record { version = r.version; id = r.id; status = status; contexts = contexts })
    → (body_of version (ended (reply_body (offer_for interface asked) outs (status_of r.body)))).holds r.body
    → (reply interface asked version).holds r
unfolding reply leads made_of
reply_holds interface asked version r outs status contexts fit listed told shown head body = (
  rw (told, shown) at head,
  (
    refl,
    allowed_hold (may_answer asked (status_of r.body)) (body_of version
        (ended (reply_body (offer_for interface asked) (outs_for interface asked) (status_of r.body)))) r.body
        (answering interface asked version r fit) (rw listed at body),
  ),
)
