-- What one object offers is all that a Request of its key, and a Reply to it, are read by.
use Rattle.std.proofs.Common.{◌≡◌, ℕ, List, Some, Ok, refl, sym, ap, ◌∙◌}
use Rattle.giop_cdr.specs.declared.order.Order.{Order}
use Rattle.giop_cdr.specs.Reading.Cursor.{Cursor}
use Rattle.giop_types.specs.declared.interfaces.interface.Interface.{Interface}
use Rattle.giop_types.specs.Objects.{offer_of}
use Rattle.giop_msg.specs.declared.messages.request.Request.{Request}
use Rattle.giop_msg.specs.declared.target.Target.TheVariants.{Key}
use Rattle.giop_msg.specs.declared.version.Version.{Version}
use Rattle.giop_msg.specs.Joined.{joined_from}
use Rattle.giop_msg.specs.Messages.Laws.{ObjectsAreApart}
use Rattle.giop_msg.specs.Messages.Reply.{reply}
use Rattle.giop_msg.specs.Messages.Request.{offer_at, operation_in}
use Rattle.giop_msg.specs.Messages.RequestAnswer.{head_answer, operation_answer, request_of_joined}
use Rattle.giop_msg.specs.RequestHead.{Head, request_head}
use Rattle.giop_msg.specs.Target.{AnyTarget}

-- what is offered at that key
offered : (one other : Interface) (key : List ℕ) (target : AnyTarget) → target ≡ Key key
    → offer_of one key ≡ offer_of other key → offer_at one target ≡ offer_at other target
offered one other key target is same =
    ap (offer_at one) is ∙ same ∙ sym (ap (offer_at other) is)

requests : (one other : Interface) (key : List ℕ) (version : Version) (order : Order) (octets : List ℕ)
    (head : Head) (after : Cursor) → (request_head version).read (joined_from order octets) ≡ Ok (head, after)
    → offer_at one head.target ≡ offer_at other head.target
    → request_of_joined one version order octets ≡ request_of_joined other version order octets
unfolding request_of_joined
requests one other key version order octets head after read same =
    ap (head_answer one version) read
    ∙ ap (λ offer. operation_answer version head after (operation_in offer head.operation)) same
    ∙ sym (ap (head_answer other version) read)

replies : (one other : Interface) (asked : Request) (version : Version) (c : Cursor)
    → offer_at one asked.head.target ≡ offer_at other asked.head.target
    → (reply one (Some asked) version).read c ≡ (reply other (Some asked) version).read c
unfolding reply
replies one other asked version c same = rw same refl

pub objects_apart : ObjectsAreApart
objects_apart one other key same = (
  λ version order octets head after read is.
      requests one other key version order octets head after read (offered one other key head.target is same),
  λ asked version c is. replies one other asked version c (offered one other key asked.head.target is same),
)
