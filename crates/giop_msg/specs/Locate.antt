-- LocateRequest and LocateReply (CORBA 3.3 Part 2, 9.4.5 and 9.4.6), which begin at offset 12: the
-- tables of their fields.
use Rattle.std.specs.Prelude.{ℕ}
use Rattle.std.specs.Int.{w32}
use Rattle.giop_cdr.specs.Layout.{Layout, number, field, gives}
use Rattle.giop_msg.specs.declared.locate_reply_head.LocateReplyHead.{LocateReplyHead}
use Rattle.giop_msg.specs.declared.locate_request.LocateRequest.{LocateRequest}
use Rattle.giop_msg.specs.declared.version.Version.{Version}
use Rattle.giop_msg.specs.declared.version.Version.TheVariants.{V10, V11, V12}
use Rattle.giop_msg.specs.Status.{status_up_to}
use Rattle.giop_msg.specs.Target.{AnyTarget, target_layout, object_key}

-- a LocateRequest as contracts see it, wherever its octets lie
abbrev pub AnyLocateRequest : Type 0
AnyLocateRequest = LocateRequest AnyTarget

-- the target of a version: before 1.2 the object key alone
unfoldable pub located : Version → Layout AnyTarget
located V10 = object_key
located V11 = object_key
located V12 = target_layout

-- the fields of a LocateRequest, in their order
unfoldable pub locate_request : Version → Layout AnyLocateRequest
locate_request version =
    field (λ request. request.id) (number w32) λ id.
    field (λ request. request.target) (located version) λ target.
    gives (record { version = version; id = id; target = target })

-- the last locate status: OBJECT_FORWARD before 1.2, and then LOC_NEEDS_ADDRESSING_MODE
abbrev pub last_locate_status : Version → ℕ
last_locate_status V10 = 2
last_locate_status V11 = 2
last_locate_status V12 = 5

-- an unsigned long that is a locate status
unfoldable pub locate_status : Version → Layout ℕ
locate_status version = status_up_to (last_locate_status version)

-- the fields of a LocateReply before its body, in their order
unfoldable pub locate_reply_head : Version → Layout LocateReplyHead
locate_reply_head version =
    field (λ head. head.id) (number w32) λ id.
    field (λ head. head.status) (locate_status version) λ status.
    gives (record { version = version; id = id; status = status })
