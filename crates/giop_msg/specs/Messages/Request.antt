-- A whole Request (CORBA 3.3 Part 2, 9.4.2): its head, and the ins of its operation.
use Rattle.std.specs.Prelude.{ℕ, List, Option, Some, None}
use Rattle.std.specs.BTreeMap.{get_by}
use Rattle.std.specs.Ordering.{nat_cmp}
use Rattle.std.specs.Cmp.Lexicographic.{slice_cmp}
use Rattle.giop_cdr.specs.Ending.{Ending, ended, leads, made_of, nothing}
use Rattle.giop_types.specs.declared.interfaces.interface.Interface.{Interface}
use Rattle.giop_types.specs.declared.interfaces.interface.Operation.{Operation}
use Rattle.giop_types.specs.declared.interfaces.offer.Offer.{Offer}
use Rattle.giop_types.specs.Objects.{offer_of}
use Rattle.giop_msg.specs.declared.messages.request.Request.{Request}
use Rattle.giop_msg.specs.declared.target.Target.TheVariants.{Key}
use Rattle.giop_msg.specs.declared.version.Version.{Version}
use Rattle.giop_msg.specs.Messages.Body.{body_of, values}
use Rattle.giop_msg.specs.RequestHead.{Head, request_head}
use Rattle.giop_msg.specs.Target.{AnyTarget}

-- the operation of a name, where an object offers one
abbrev pub operation_in : Offer → List ℕ → Option Operation
operation_in offer name = get_by (λ key. slice_cmp nat_cmp name key.items) offer.operations

-- the operation of a name that is general
abbrev pub operation_of : Interface → List ℕ → Option Operation
operation_of interface = operation_in interface.general

-- what the object offers that a target asks: the one at a key its own; a profile and a reference
-- ask for what is general
abbrev pub offer_at : Interface → AnyTarget → Offer
offer_at interface (Key key) = offer_of interface key
offer_at interface _ = interface.general

-- the operation that a head asks for, where its object offers it
abbrev pub operation_asked : Interface → Head → Option Operation
operation_asked interface head =
    operation_in (offer_at interface head.target) head.operation

-- behind a head the ins of its operation, with nothing after them; no octets, where the interface
-- has no such operation
unfoldable pub request_body : Version → Head → Option Operation → Ending Request
request_body version head None = nothing
request_body version head (Some operation) =
    made_of (λ request. request.body) (λ body. record { head = head; body = body })
    (body_of version (ended (values operation.ins.list.items)))

-- a Request of an interface, by a version's layout
unfoldable pub request : Interface → Version → Ending Request
request interface version =
    leads (λ request. request.head) (request_head version) λ head.
    request_body version head (operation_asked interface head)
