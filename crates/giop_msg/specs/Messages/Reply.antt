-- A whole Reply (CORBA 3.3 Part 2, 9.4.3): its head, and a body by its status.
use Rattle.std.specs.Prelude.{ℕ, ℤ, pos, ◌==◌, nat_lt, Bool, true, false, if◌then◌else◌, List, [], Option, Some, None}
use Rattle.std.specs.BTreeMap.{get_by}
use Rattle.std.specs.Int.{w16, w32}
use Rattle.std.specs.Ordering.{nat_cmp}
use Rattle.std.specs.Cmp.Lexicographic.{slice_cmp}
use Rattle.giop_cdr.specs.declared.fault.CdrKind.TheVariants.{BadLabel}
use Rattle.giop_cdr.specs.Ending.{Ending, ended, leads, made_of, nothing}
use Rattle.giop_cdr.specs.Layout.{Layout, number, signed, text, such, field, gives, chosen}
use Rattle.giop_ior.specs.Ior.{ior_layout}
use Rattle.giop_ior.specs.Ior.{Reference as IorValue}
use Rattle.giop_types.specs.declared.interfaces.interface.Interface.{Interface}
use Rattle.giop_types.specs.declared.interfaces.interface.Operation.{Operation}
use Rattle.giop_types.specs.declared.interfaces.offer.Offer.{Offer}
use Rattle.giop_types.specs.declared.interfaces.parameters.Parameter.{Parameter}
use Rattle.giop_types.specs.declared.interfaces.parameters.Parameters.{Parameters}
use Rattle.giop_types.specs.Values.Tree.{Tree}
use Rattle.giop_msg.specs.declared.messages.completion.Completion.{Completion}
use Rattle.giop_msg.specs.declared.messages.completion.Completion.TheVariants.{Yes, No, Maybe}
use Rattle.giop_msg.specs.declared.messages.reply.Reply.{Reply}
use Rattle.giop_msg.specs.declared.messages.reply_body.ReplyBody.{ReplyBody}
use Rattle.giop_msg.specs.declared.messages.reply_body.ReplyBody.TheVariants.{NoException, UserException, SystemException, Forward, ForwardPerm, NeedsAddressing}
use Rattle.giop_msg.specs.declared.messages.request.Request.{Request}
use Rattle.giop_msg.specs.declared.version.Version.{Version}
use Rattle.giop_msg.specs.Messages.Body.{body_of, values}
use Rattle.giop_msg.specs.Messages.Request.{offer_at, operation_asked}
use Rattle.giop_msg.specs.ReplyHead.{AnyReplyHead, reply_head}

-- the number of a completion
abbrev pub completion_number : Completion → ℕ
completion_number Yes = 0
completion_number No = 1
completion_number Maybe = 2

-- the completion of a number, of which 2 is the greatest
abbrev pub completion_of : ℕ → Completion
completion_of n = if n == 0 then Yes else if n == 1 then No else Maybe

-- an unsigned long that is a completion
unfoldable pub completion : Layout Completion
completion =
    field completion_number (such (λ n. nat_lt n 3) 4 BadLabel (number w32)) λ n.
    gives (completion_of n)

-- the number of a body: the reply status
abbrev pub status_of : ReplyBody → ℕ
status_of (NoException _) = 0
status_of (UserException _ _) = 1
status_of (SystemException _ _ _) = 2
status_of (Forward _) = 3
status_of (ForwardPerm _) = 4
status_of (NeedsAddressing _) = 5

-- what a body has, where it is of the kind that has it
abbrev pub outs_in : ReplyBody → List Tree
outs_in (NoException outs) = outs
outs_in _ = []

-- the id of an exception
abbrev pub id_in : ReplyBody → List ℕ
id_in (UserException id members) = id
id_in (SystemException id minor completed) = id
id_in _ = []

-- the members of an exception of the interface
abbrev pub members_in : ReplyBody → List Tree
members_in (UserException id members) = members
members_in _ = []

-- the minor code of an exception of the broker
abbrev pub minor_in : ReplyBody → ℕ
minor_in (SystemException id minor completed) = minor
minor_in _ = 0

-- and whether the operation was completed
abbrev pub completion_in : ReplyBody → Completion
completion_in (SystemException id minor completed) = completed
completion_in _ = Yes

-- the reference that a request is forwarded to
abbrev pub ior_in : ReplyBody → IorValue
ior_in (Forward ior) = ior
ior_in (ForwardPerm ior) = ior
ior_in _ = record { type_id = []; profiles = [] }

-- the disposition in which the target has to be addressed
abbrev pub disposition_in : ReplyBody → ℤ
disposition_in (NeedsAddressing n) = n
disposition_in _ = pos 0

-- the members of the exception of an id, where an object offers one
abbrev pub exception_in : Offer → List ℕ → Option Parameters
exception_in offer id = get_by (λ key. slice_cmp nat_cmp id key.items) offer.exceptions

-- the members of the exception of an id that is general
abbrev pub exception_of : Interface → List ℕ → Option Parameters
exception_of interface = exception_in interface.general

-- whether there is such an exception
abbrev pub is_known : Option Parameters → Bool
is_known (Some members) = true
is_known None = false

-- its members; none where there is none
abbrev pub listed : Option Parameters → List Parameter
listed (Some members) = members.list.items
listed None = []

-- the outs of an operation; none, where the interface hasn't it
abbrev pub outs_of : Option Operation → List Parameter
outs_of (Some operation) = operation.outs.list.items
outs_of None = []

-- what a reply to a request brings where there is no exception: the outs of its operation; none
-- where its flags are 1, or where it could not be decoded
abbrev pub outs_for : Interface → Option Request → List Parameter
outs_for interface None = []
outs_for interface (Some request) =
    if request.head.flags == 1 then [] else outs_of (operation_asked interface request.head)

-- what the object offers that a request asked; where it could not be decoded, what is general
abbrev pub offer_for : Interface → Option Request → Offer
offer_for interface None = interface.general
offer_for interface (Some request) = offer_at interface request.head.target

-- whether a status answers a request: to one that could not be decoded SYSTEM_EXCEPTION alone does
abbrev pub may_answer : Option Request → ℕ → Bool
may_answer None status = status == 2
may_answer (Some request) status = true

-- 0 NO_EXCEPTION: the outs
unfoldable pub no_exception : List Parameter → Layout ReplyBody
no_exception outs = field outs_in (values outs) λ values. gives (NoException values)

-- 1 USER_EXCEPTION: the id of an exception that the object offers, and its members
unfoldable pub user_exception : Offer → Layout ReplyBody
user_exception offer =
    field id_in (such (λ id. is_known (exception_in offer id)) 4 BadLabel text) λ id.
    field members_in (values (listed (exception_in offer id))) λ members.
    gives (UserException id members)

-- 2 SYSTEM_EXCEPTION: its id, a minor code, and the completion
unfoldable pub system_exception : Layout ReplyBody
system_exception =
    field id_in text λ id.
    field minor_in (number w32) λ minor.
    field completion_in completion λ completed.
    gives (SystemException id minor completed)

-- 3 LOCATION_FORWARD and 4 LOCATION_FORWARD_PERM: a reference
unfoldable pub forward : (IorValue → ReplyBody) → Layout ReplyBody
forward made = field ior_in ior_layout λ ior. gives (made ior)

-- 5 NEEDS_ADDRESSING_MODE: a short, whatever it is
unfoldable pub needs_addressing : Layout ReplyBody
needs_addressing = field disposition_in (signed w16) λ n. gives (NeedsAddressing n)

-- a body by its status
unfoldable pub reply_body : Offer → List Parameter → ℕ → Layout ReplyBody
reply_body offer outs status =
    chosen (status == 0) (no_exception outs)
    (chosen (status == 1) (user_exception offer)
    (chosen (status == 2) system_exception
    (chosen (status == 3) (forward (λ ior. Forward ior))
    (chosen (status == 4) (forward (λ ior. ForwardPerm ior)) needs_addressing))))

-- a body where there may be one; no octets, where there may not
unfoldable pub allowed : {A : Type 0} → Bool → Ending A → Ending A
allowed true f = f
allowed false f = nothing

-- the head of a Reply
abbrev pub head_in : Reply → AnyReplyHead
head_in reply = record {
  version = reply.version;
  id = reply.id;
  status = status_of reply.body;
  contexts = reply.contexts;
}

-- a Reply of an interface to a request, by a version's layout; or to one that could not be decoded
unfoldable pub reply : Interface → Option Request → Version → Ending Reply
reply interface request version =
    leads head_in (reply_head version) λ head.
    made_of (λ reply. reply.body) (λ body. record {
      version = head.version;
      id = head.id;
      contexts = head.contexts;
      body = body;
    })
    (allowed (may_answer request head.status)
    (body_of version
    (ended (reply_body (offer_for interface request) (outs_for interface request) head.status))))
