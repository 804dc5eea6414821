-- Where the request id of a message stands (CORBA 3.3 Part 2, 9.4.2 to 9.4.8).
use Rattle.std.specs.Prelude.{ℕ, Bool, true, false, List, [], Result, Ok, Err, Option, Some, None, if◌then◌else◌}
use Rattle.std.specs.Int.{w32}
use Rattle.giop_cdr.specs.declared.fault.CdrFault.{CdrFault}
use Rattle.giop_cdr.specs.Reading.Values.{Reading}
use Rattle.giop_cdr.specs.Layout.{Layout, number, field, gives, reserved, chosen}
use Rattle.giop_ior.specs.declared.references.service_context.ServiceContext.{ServiceContext}
use Rattle.giop_msg.specs.declared.kind.Kind.{Kind}
use Rattle.giop_msg.specs.declared.kind.Kind.TheVariants.{Request, Reply}
use Rattle.giop_msg.specs.declared.msg.Msg.{Msg}
use Rattle.giop_msg.specs.declared.version.Version.{Version}
use Rattle.giop_msg.specs.declared.version.Version.TheVariants.{V10, V11, V12}
use Rattle.giop_msg.specs.Kind.{has_request_id}
use Rattle.giop_ior.specs.ServiceContext.{service_contexts}
use Rattle.giop_msg.specs.Joined.{joined_from}

-- a message of this kind has service contexts
abbrev pub has_contexts : Kind → Bool
has_contexts Request = true
has_contexts Reply = true
has_contexts _ = false

-- whether these are its first field: before 1.2
abbrev pub begins_with_contexts : Version → Kind → Bool
begins_with_contexts V10 kind = has_contexts kind
begins_with_contexts V11 kind = has_contexts kind
begins_with_contexts V12 kind = false

-- service contexts of which nothing is kept
unfoldable pub passed_contexts : Layout (List ServiceContext)
passed_contexts = reserved service_contexts []

-- an id behind service contexts
unfoldable pub id_behind_contexts : Layout ℕ
id_behind_contexts =
    field (λ _. []) passed_contexts λ _.
    field (λ id. id) (number w32) λ id.
    gives id

-- the fields of a message up to its request id
unfoldable pub request_id_layout : Version → Kind → Layout ℕ
request_id_layout version kind =
    chosen (begins_with_contexts version kind) id_behind_contexts (number w32)

-- what is read, or why nothing is
abbrev pub value_of : {A : Type 0} → Reading A → Result A CdrFault
value_of (Ok x) = Ok x.0
value_of (Err e) = Err e

-- the request id of a message whose kind has one, or the first fault before it
abbrev pub request_id_of : Msg → Option (Result ℕ CdrFault)
request_id_of m =
    if has_request_id m.kind
    then Some (value_of ((request_id_layout m.version m.kind).read (joined_from m.order m.payload)))
    else None
