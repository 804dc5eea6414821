-- The head of a Reply (CORBA 3.3 Part 2, 9.4.3), which begins at offset 12: the tables of its
-- fields.
use Rattle.std.specs.Prelude.{ℕ, List}
use Rattle.std.specs.Int.{w32}
use Rattle.giop_cdr.specs.Layout.{Layout, number, field, gives}
use Rattle.giop_ior.specs.declared.references.service_context.ServiceContext.{ServiceContext}
use Rattle.giop_ior.specs.ServiceContext.{service_contexts}
use Rattle.giop_msg.specs.Status.{status_up_to}
use Rattle.giop_msg.specs.declared.reply_head.ReplyHead.{ReplyHead}
use Rattle.giop_msg.specs.declared.version.Version.{Version}
use Rattle.giop_msg.specs.declared.version.Version.TheVariants.{V10, V11, V12}

-- a head as contracts see it, wherever its contexts lie
abbrev pub AnyReplyHead : Type 0
AnyReplyHead = ReplyHead (List ServiceContext)

-- the head of these parts
abbrev pub head_of : Version → ℕ → ℕ → List ServiceContext → AnyReplyHead
head_of version id status contexts =
    record { version = version; id = id; status = status; contexts = contexts }

-- the last reply status: LOCATION_FORWARD before 1.2, and then NEEDS_ADDRESSING_MODE
abbrev pub last_reply_status : Version → ℕ
last_reply_status V10 = 3
last_reply_status V11 = 3
last_reply_status V12 = 5

-- an unsigned long that is a reply status
unfoldable pub reply_status : Version → Layout ℕ
reply_status version = status_up_to (last_reply_status version)

-- the fields in 1.2, in their order
unfoldable pub reply_head_1_2 : Layout AnyReplyHead
reply_head_1_2 =
    field (λ head. head.id) (number w32) λ id.
    field (λ head. head.status) (reply_status V12) λ status.
    field (λ head. head.contexts) service_contexts λ contexts.
    gives (head_of V12 id status contexts)

-- the fields before 1.2, in their order
unfoldable pub early_reply_head : Version → Layout AnyReplyHead
early_reply_head version =
    field (λ head. head.contexts) service_contexts λ contexts.
    field (λ head. head.id) (number w32) λ id.
    field (λ head. head.status) (reply_status version) λ status.
    gives (head_of version id status contexts)

-- the fields in each version
unfoldable pub reply_head : Version → Layout AnyReplyHead
reply_head V10 = early_reply_head V10
reply_head V11 = early_reply_head V11
reply_head V12 = reply_head_1_2
