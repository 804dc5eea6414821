-- The head of a Request (CORBA 3.3 Part 2, 9.4.2), which begins at offset 12: the tables of its
-- fields.
use Rattle.std.specs.Prelude.{ℕ, ◌==◌, ◌||◌, Bool, List, [], if◌then◌else◌}
use Rattle.std.specs.Int.{w8, w32}
use Rattle.giop_cdr.specs.declared.fault.CdrKind.TheVariants.{BadLabel}
use Rattle.giop_cdr.specs.Layout.{Layout, number, boolean, octets, text, such, field, gives, reserved}
use Rattle.giop_ior.specs.declared.references.service_context.ServiceContext.{ServiceContext}
use Rattle.giop_ior.specs.ServiceContext.{service_contexts}
use Rattle.giop_msg.specs.declared.request_head.RequestHead.{RequestHead}
use Rattle.giop_msg.specs.declared.version.Version.{Version}
use Rattle.giop_msg.specs.declared.version.Version.TheVariants.{V10, V11, V12}
use Rattle.giop_msg.specs.Meaning.{meaning}
use Rattle.giop_msg.specs.Target.{AnyTarget, target_layout, object_key}

-- a head as contracts see it, wherever its octets lie
abbrev pub Head : Type 0
Head = RequestHead (List ℕ) (List ServiceContext) AnyTarget

-- the response flags: 0 no reply, 1 a reply without a body, 3 a reply
abbrev pub is_response_flags : ℕ → Bool
is_response_flags flags = (flags == 0) || (flags == 1) || (flags == 3)

-- an octet that is one of them
unfoldable pub response_flags : Layout ℕ
response_flags = such is_response_flags 1 BadLabel (number w8)

-- a reserved octet: any is read as 0
unfoldable pub reserved_octet : Layout ℕ
reserved_octet = reserved (number w8) 0

-- three of them
unfoldable pub reserved_octets : Layout ℕ
reserved_octets =
    field (λ _. 0) reserved_octet λ _.
    field (λ _. 0) reserved_octet λ _.
    field (λ _. 0) reserved_octet λ _.
    gives 0

-- the fields in 1.2, in their order
unfoldable pub request_head_1_2 : Layout Head
request_head_1_2 =
    field (λ head. head.id) (number w32) λ id.
    field (λ head. head.flags) response_flags λ flags.
    field (λ _. 0) reserved_octets λ _.
    field (λ head. head.target) target_layout λ target.
    field (λ head. head.operation) text λ operation.
    field (λ head. head.contexts) service_contexts λ contexts.
    gives (record {
      version = V12;
      id = id;
      flags = flags;
      target = target;
      operation = operation;
      contexts = contexts;
    })

-- the flags that response_expected means
abbrev pub flags_expecting : Bool → ℕ
flags_expecting expected = if expected then 3 else 0

-- whether flags are meant by it
abbrev pub is_expecting : ℕ → Bool
is_expecting flags = (flags == 0) || (flags == 3)

-- response_expected: a boolean
unfoldable pub response_expected : Layout ℕ
response_expected = meaning flags_expecting (λ flags. flags == 3) is_expecting boolean

-- the reserved octets behind it: none in 1.0
unfoldable pub reserved_of : Version → Layout ℕ
reserved_of V10 = gives 0
reserved_of V11 = reserved_octets
reserved_of V12 = reserved_octets

-- the principal: any octets are read as none
unfoldable pub principal : Layout (List ℕ)
principal = reserved octets []

-- the fields before 1.2, in their order
unfoldable pub early_request_head : Version → Layout Head
early_request_head version =
    field (λ head. head.contexts) service_contexts λ contexts.
    field (λ head. head.id) (number w32) λ id.
    field (λ head. head.flags) response_expected λ flags.
    field (λ _. 0) (reserved_of version) λ _.
    field (λ head. head.target) object_key λ target.
    field (λ head. head.operation) text λ operation.
    field (λ _. []) principal λ _.
    gives (record {
      version = version;
      id = id;
      flags = flags;
      target = target;
      operation = operation;
      contexts = contexts;
    })

-- the fields in each version
unfoldable pub request_head : Version → Layout Head
request_head V10 = early_request_head V10
request_head V11 = early_request_head V11
request_head V12 = request_head_1_2
